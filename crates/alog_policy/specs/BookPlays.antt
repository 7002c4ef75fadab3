-- What each step tells the seat that makes it.
use Rattle.std.specs.Prelude.{◌≡◌, ◌==◌, if◌then◌else◌, ℕ, List, []}
use Rattle.atomic_table.specs.Table.{Me}
use Rattle.alog_lane.specs.declared.seat.TheConstants.{ALL_PARTS}
use Rattle.alog_lane.specs.Seats.{Entry, Made, IsFaithful}
use Rattle.alog_lane.specs.Roster.{Idle}
use Rattle.alog_policy.specs.declared.loss_book.TheConstants.{OVERRUN}
use Rattle.alog_policy.specs.BookAdds.{Add, Overran, Discarded, overrun_after, discarded_after}
use Rattle.alog_policy.specs.BookCalls.{Adds}
use Rattle.alog_policy.specs.BookRule.{BookSight}

-- the add of so much to this word
abbrev pub add_at : ℕ → ℕ → Add
add_at word much = if word == OVERRUN then Overran much else Discarded much

-- the number of this word after a history
abbrev pub number_at : ℕ → List (Entry Add) → ℕ
number_at word h = if word == OVERRUN then overrun_after h else discarded_after h

-- The seat made this add, and is in no call.
pub record Added (a : Add) (m m' : Me (Unit {0}) BookSight) : Type 0 where
  pub adds : IsFaithful m.0.known → Adds m.0.known m'.0.known a
  pub stage : m'.0.stage ≡ Idle
  pub slots : m'.1 ≡ m.1

-- The seat looked at a word, which had its number after the history that it sees now. A seat with all parts had seen it.
pub record Looked (word : ℕ) (m : Me (Unit {0}) BookSight) (found : ℕ) (m' : Me (Unit {0}) BookSight) : Type 0 where
  pub looks : Made m.0.known m'.0.known []
  pub stage : m'.0.stage ≡ Idle
  pub slots : m'.1 ≡ m.1
  pub number : found ≡ number_at word m'.0.known.seen
  pub alone : m.0.known.parts ≡ ALL_PARTS → IsFaithful m.0.known → m'.0.known.seen ≡ m.0.known.seen
