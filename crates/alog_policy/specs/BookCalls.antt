-- What the calls of a loss book promise.
use Rattle.std.specs.Prelude.{◌≡◌, ◌%◌, ◌^◌, List, [], ◌∷◌, ◌++◌}
use Rattle.std.specs.List.{sum_by}
use mathlib.Core.List.{IsPrefix}
use Rattle.atomic_table.specs.Seated.{TableId}
use Rattle.alog_lane.specs.declared.seat.TheConstants.{ALL_PARTS}
use Rattle.alog_lane.specs.Seats.{Entry, Member, Known, Made, members_of, IsWhole, IsFaithful}
use Rattle.alog_policy.specs.declared.counts.Counts.{Counts}
use Rattle.alog_policy.specs.BookAdds.{Add, items_in, posts_in, overrun_after, discarded_after}

-- which book it is
pub record BookId : Type 0 where
  pub table : TableId

-- what clauses see of a seat
pub record SeatView : Type 0 where
  pub table : TableId
  pub known : Known Add

-- the seat belongs to the book
pub record IsSeatOf (book : BookId) (seat : SeatView) : Type 0 where
  pub table : seat.table ≡ book.table

-- an entry of the seat
abbrev pub by : Known Add → Add → Entry Add
by k a = record { seat = k.seat; deed = a }

-- The seat made this one add, with which the history that it has seen ends. A seat with all parts had seen all before it.
pub record Adds (old new : Known Add) (a : Add) : Type 0 where
  pub made : Made old new (by old a ∷ [])
  pub before : List (Entry Add)
  pub longer : IsPrefix old.seen before
  pub ends : new.seen ≡ before ++ by old a ∷ []
  pub alone : old.parts ≡ ALL_PARTS → before ≡ old.seen

-- The seat looked twice: the first history that it saw has all that it had seen, and gives the overrun number; the second
-- is at least as long, and gives the discarded number. A seat with all parts had seen both.
pub record AreCounted (old new : Known Add) (c : Counts) : Type 0 where
  pub looks : Made old new []
  pub first : List (Entry Add)
  pub longer : IsPrefix old.seen first
  pub second : IsPrefix first new.seen
  pub overrun : c.overrun ≡ overrun_after first
  pub discarded : c.discarded ≡ discarded_after new.seen
  pub alone : old.parts ≡ ALL_PARTS → (first ≡ old.seen) × (new.seen ≡ old.seen)

-- The end of a book: the seat has seen everything, and the numbers are the sums of what its members added.
pub record Closes (k : Known Add) (c : Counts) : Type 0 where
  pub faithful : IsFaithful k
  pub whole : IsWhole k
  pub overrun : c.overrun ≡ sum_by (λ (m : Member Add). items_in m.own) (members_of k) % 2 ^ 64
  pub discarded : c.discarded ≡ sum_by (λ (m : Member Add). posts_in m.own) (members_of k) % 2 ^ 64
