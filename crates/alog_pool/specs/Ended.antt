-- How a pool comes to its end: all producers come back, then it puts in nothing but stops, and then its workers come back.
use Rattle.std.specs.Prelude.{◌≡◌, List, [], ◌∷◌, ◌++◌}
use Rattle.std.specs.List.{AllByRecursion}
use mathlib.Core.List.{IsPrefix}
use Rattle.alog_core.specs.Accounts.{claims, claimed, taken}
use Rattle.alog_core.specs.History.{Entry}
use Rattle.alog_lane.specs.Seats as lane
use Rattle.alog_msg.specs.declared.item.Item.{Item}
use Rattle.alog_policy.specs.BookAdds.{Add, items_in}
use Rattle.alog_pool.specs.Accounts.{of_all, of_work, of_stops}
use Rattle.alog_pool.specs.Ending.{HasEndedAmong}
use Rattle.alog_registry.specs.BlockPort.{block_note}
use Rattle.alog_ring.specs.Known.{Known, Member}
use Rattle.alog_ring.specs.Made.{IsFaithful}

-- a member that put no stop in, and one that put nothing in
abbrev pub PutNoStop : Member Item block_note → Type 0
PutNoStop m = claimed of_stops m.own ≡ 0

abbrev pub PutNothing : Member Item block_note → Type 0
PutNothing m = claims m.own ≡ []

-- What the pool's own pass knew when all producers had come back: it had put nothing in itself, and no member had put a stop in.
pub record HasGathered (j : Known Item block_note) : Type 0 where
  pub faithful : IsFaithful j
  pub own : claims j.own ≡ []
  pub members : AllByRecursion PutNoStop j.joined

-- What it knows later: since then it put in nothing but stops, and these members came to it, the workers, which put nothing in.
pub record IsEndingFrom (j k : Known Item block_note) (workers : List (Member Item block_note)) : Type 0 where
  pub actor : k.actor ≡ j.actor
  pub seen : IsPrefix j.seen k.seen
  pub stops : List (Entry Item block_note)
  pub own : k.own ≡ j.own ++ stops
  pub only_stops : claimed of_work stops ≡ 0
  pub joined : k.joined ≡ j.joined ++ workers
  pub no_claims : AllByRecursion PutNothing workers

-- What it knows at the end: one of those members ended as a worker does.
pub record HasEndedFrom (j k : Known Item block_note) : Type 0 where
  pub workers : List (Member Item block_note)
  pub since : IsEndingFrom j k workers
  pub ended : HasEndedAmong workers

-- of each of these passes the seat in the same place counted as many overrun items as the pass took out
abbrev pub AreCounted : List (Member Item block_note) → List (lane.Member Add) → Type 0
AreCounted [] [] = Unit {0}
AreCounted (m ∷ ms) (s ∷ ss) = (items_in s.own ≡ taken of_all m.own) × AreCounted ms ss
AreCounted _ _ = ⊥
