-- The bytes of a text, wherever they lie, and how much room there is where a long one does.
use Rattle.std.specs.Prelude.{◌<◌, ◌≤◌, ℕ, List, length, string_bytes}
use Rattle.std.specs.String.{string_capacity}
use Rattle.alog_msg.specs.Room.{IsRoomFor}
use Rattle.alog_msg.specs.declared.limits.TheConstants.{SHORT_TEXT_MAX}
use Rattle.alog_msg.specs.declared.text.Kept.{Kept}
use Rattle.alog_msg.specs.declared.text.Kept.TheVariants.{Short, Long}

-- the bytes of a text that lies in the value, or in memory of its own
abbrev pub bytes_of : Kept → List ℕ
bytes_of (Short text) = text
bytes_of (Long text) = string_bytes text

-- a short text lies in the value, and a longer one in a room that is one for its length
abbrev pub HasItsRoom : Kept → Type 0
HasItsRoom (Short text) = length text ≤ SHORT_TEXT_MAX
HasItsRoom (Long text) = (SHORT_TEXT_MAX < length (string_bytes text)) × IsRoomFor (length (string_bytes text)) (string_capacity text)
