-- What contracts see of a block, and what a block keeps beside its item.
use Rattle.std.specs.Prelude.{◌<◌, ◌≤◌, ◌⊎◌, ℕ, List, [], length, Option, Some, None, IsSome, String}
use Rattle.std.specs.String.{string_capacity}
use Rattle.alog_msg.specs.Source.{SourceFields}
use Rattle.alog_msg.specs.declared.limits.TheConstants.{SHORT_TEXT_MAX, TEXT_LIMIT_MIN, TEXT_LIMIT_MAX, SMALL_ROOM, MIDDLE_ROOM, LARGE_ROOM}
use Rattle.alog_msg.specs.declared.item.Item.{Item}
use Rattle.alog_msg.specs.declared.item.Item.TheVariants.{Text, Flush, Stop}
use Rattle.alog_msg.specs.declared.spare.Spare.{Spare}

-- the text limit that a block was made with, and the item that was written to it last
pub record BlockFields : Type 0 where
  pub limit : ℕ
  pub item : Item

-- the text of an item, which is empty where it has none
abbrev pub text_in : Item → List ℕ
text_in (Text m) = m.text
text_in (Flush _) = []
text_in Stop = []

-- the source of an item, if it has one
abbrev pub source_in : Item → Option SourceFields
source_in (Text m) = m.source
source_in (Flush _) = None
source_in Stop = None

-- how many bytes a room has, and 0 where there is none
abbrev pub room_in : {A : Type 0} → Option (String A) → ℕ
room_in None = 0
room_in (Some room) = string_capacity room

-- where a limit lets long texts through, there is a room for the shortest of them
abbrev pub IsSmallRoom : {A : Type 0} → ℕ → Option (String A) → Type 0
IsSmallRoom limit room = SHORT_TEXT_MAX < limit → SMALL_ROOM ≤ room_in room

-- while a text of this length lies in the room that it needs, the other rooms that texts up to the limit may need are here
pub record HasRooms (lent : ℕ) (spare : Spare) : Type 0 where
  pub small : SHORT_TEXT_MAX < spare.limit → (lent ≤ SHORT_TEXT_MAX) ⊎ (SMALL_ROOM < lent) → SMALL_ROOM ≤ room_in spare.small
  pub middle : SMALL_ROOM < spare.limit → (lent ≤ SMALL_ROOM) ⊎ (MIDDLE_ROOM < lent) → MIDDLE_ROOM ≤ room_in spare.middle
  pub large : MIDDLE_ROOM < spare.limit → lent ≤ MIDDLE_ROOM → LARGE_ROOM ≤ room_in spare.large

-- a block with this item can be written: its limit is one, and all that its item does not use is beside it
pub record IsReady (item : Item) (spare : Spare) : Type 0 where
  pub at_least : TEXT_LIMIT_MIN ≤ spare.limit
  pub at_most : spare.limit ≤ TEXT_LIMIT_MAX
  pub rooms : HasRooms (length (text_in item)) spare
  pub source : IsSome spare.source ⊎ IsSome (source_in item)
