-- The longest line that a pattern can give.
use Rattle.std.specs.Prelude.{ℕ, ◌+◌, ◌<◌, max, List, sum_by, Option, Some, None, if◌then◌else◌}
use Rattle.alog_msg.specs.declared.limits.TheConstants.{FUNCTION_MAX}
use Rattle.alog_pattern.specs.declared.items.Padding.{Padding}
use Rattle.alog_pattern.specs.declared.items.Item.{Item}
use Rattle.alog_pattern.specs.declared.items.Item.TheVariants.{Byte, Flag, Unknown, Function}
use Rattle.alog_pattern.specs.Flag.{greatest_len, ignores_padding}
use Rattle.alog_pattern.specs.Grammar.{IsReading}

-- the greatest length of a text that is padded, where the text alone has at most len bytes
abbrev pub padded_len : Option Padding → ℕ → ℕ
padded_len None len = len
padded_len (Some p) len = if p.cut then p.width else max p.width len

-- the greatest length of an item's text, where the text of a message has at most limit bytes
abbrev pub item_len : ℕ → Item → ℕ
item_len limit (Byte b) = 1
item_len limit (Flag flag padding) = if ignores_padding flag then greatest_len limit flag else padded_len padding (greatest_len limit flag)
item_len limit (Unknown b) = 2
item_len limit (Function width side next) = max width FUNCTION_MAX + 1

-- the longest line, with its newline
abbrev pub longest_line : ℕ → List Item → ℕ
longest_line limit items = sum_by (item_len limit) items + 1

-- a string whose longest line is above n
abbrev pub LineExceeds : ℕ → ℕ → List ℕ → Type 0
LineExceeds n limit bytes = (items : List Item) × IsReading bytes items × (n < longest_line limit items)
