-- The rooms of three sizes in which long texts lie.
use Rattle.std.specs.Prelude.{◌↔◌, ◌<◌, ◌≤◌, ℕ}
use Rattle.alog_msg.specs.declared.limits.TheConstants.{SHORT_TEXT_MAX, SMALL_ROOM, MIDDLE_ROOM, LARGE_ROOM}

-- a room of so many bytes is one for a text of this length, and for each other text that the same of the three rooms is for
pub record IsRoomFor (length capacity : ℕ) : Type 0 where
  pub fits : length ≤ capacity
  pub small : SMALL_ROOM ≤ capacity
  pub middle : SMALL_ROOM < length → MIDDLE_ROOM ≤ capacity
  pub large : MIDDLE_ROOM < length → LARGE_ROOM ≤ capacity

-- texts of these lengths lie alike: both in the value, or in rooms of one size
pub record LieAlike (length other : ℕ) : Type 0 where
  pub short : (length ≤ SHORT_TEXT_MAX) ↔ (other ≤ SHORT_TEXT_MAX)
  pub small : (length ≤ SMALL_ROOM) ↔ (other ≤ SMALL_ROOM)
  pub middle : (length ≤ MIDDLE_ROOM) ↔ (other ≤ MIDDLE_ROOM)
