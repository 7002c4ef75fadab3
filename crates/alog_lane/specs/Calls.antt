-- What the calls of a lane promise.
use Rattle.std.specs.Prelude.{◌≡◌, ℕ, Option, Some, List, [], ◌∷◌, ◌++◌}
use mathlib.Core.List.{IsPrefix}
use Rattle.atomic_table.specs.Seated.{TableId}
use Rattle.alog_lane.specs.declared.seat.TheConstants.{ALL_PARTS}
use Rattle.alog_lane.specs.Seats.{Entry, Known, Made, IsWhole, IsFaithful}
use Rattle.alog_lane.specs.Turns.{Turned, Leads}
use Rattle.alog_lane.specs.Rule.{index_after}

-- Which lane it is, and the value that it was made with.
pub record LaneId (T : Type 0) : Type 0 where
  pub table : TableId
  pub first : T

-- what clauses see of a seat
pub record SeatView (T I S R : Type 0) : Type 0 where
  pub table : TableId
  pub first : Option T
  pub known : Known (Turned I S R)

module _ {T I S R : Type 0} where
  -- the seat belongs to the lane
  pub record IsSeatOf (lane : LaneId T) (seat : SeatView T I S R) : Type 0 where
    pub table : seat.table ≡ lane.table
    pub first : seat.first ≡ Some lane.first

  module _ (turns : T → S → I → R → T → S → Type 0) (first : T) where
    -- The seat took this turn, which is the one of this index: the history that it has seen ends with it, and leads from
    -- the first value to the value that the turn left. A seat that has all parts had seen all that was before.
    pub record TakesTurn (old new : Known (Turned I S R)) (deed : Turned I S R) (index : ℕ) : Type 0 where
      pub made : Made old new (record { seat = old.seat; deed = deed } ∷ [])
      pub before : List (Entry (Turned I S R))
      pub longer : IsPrefix old.seen before
      pub alone : old.parts ≡ ALL_PARTS → before ≡ old.seen
      pub ends : new.seen ≡ before ++ record { seat = old.seat; deed = deed } ∷ []
      pub place : index ≡ index_after before
      pub value : T
      pub leads : Leads turns first new.seen value

    -- The end of a lane: the seat has seen everything, and the history leads to this value.
    pub record Closes (k : Known (Turned I S R)) (value : T) : Type 0 where
      pub faithful : IsFaithful k
      pub whole : IsWhole k
      pub leads : Leads turns first k.seen value
