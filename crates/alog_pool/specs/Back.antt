-- What comes back to a pool at its end: the passes and seats of its producers and workers.
use Rattle.std.specs.Prelude.{◌≡◌, ◌+◌, List, ◌++◌, length}
use Rattle.std.specs.List.{AllByRecursion}
use mathlib.Core.List.{IsPrefix}
use Rattle.alog_format.specs.Buffer.{Buffer}
use Rattle.alog_lane.specs.Seats as lane
use Rattle.alog_lane.specs.Turns.{Turned}
use Rattle.alog_msg.specs.declared.item.Item.{Item}
use Rattle.alog_policy.specs.BookAdds.{Add}
use Rattle.alog_pool.specs.SinkSeat.{Answer, SinkSeatView}
use Rattle.alog_pool.specs.Lending.{IsAccountOf}
use Rattle.alog_pool.specs.Producer.{ProducerView}
use Rattle.alog_pool.specs.declared.worker.Worker.{Worker}
use Rattle.alog_registry.specs.BlockPort.{block_note}
use Rattle.alog_ring.specs.Known.{Known, Member}
use Rattle.alog_ring.specs.Made.{IsFaithful}

-- what a pool gets back: a producer's pass and its seat of the loss book, a worker's pass, and a place's seat
abbrev pub pass_member : ProducerView → Member Item block_note
pass_member p = record { actor = p.pass.known.actor; own = p.pass.known.own }

abbrev pub loss_member : ProducerView → lane.Member Add
loss_member p = record { seat = p.losses.known.seat; own = p.losses.known.own }

abbrev pub worker_member : {S : Type 0} → Worker S → Member Item block_note
worker_member h = record { actor = h.pass.known.actor; own = h.pass.known.own }

abbrev pub seat_member : {S : Type 0} → SinkSeatView S → lane.Member (Turned Item Buffer Answer)
seat_member b = record { seat = b.seat.known.seat; own = b.seat.known.own }

-- each producer's account is one
abbrev pub AreAccounts : List ProducerView → Type 0
AreAccounts producers = AllByRecursion (λ (p : ProducerView). IsAccountOf p.pass.known p.losses.known) producers

-- These members came back to the pass, each with one part. It made nothing itself.
pub record HasBack (old new : Known Item block_note) (members : List (Member Item block_note)) : Type 0 where
  pub actor : new.actor ≡ old.actor
  pub own : new.own ≡ old.own
  pub joined : new.joined ≡ old.joined ++ members
  pub parts : new.parts ≡ old.parts + length members
  pub seen : IsPrefix old.seen new.seen
  pub faithful : IsFaithful new

-- The same of a seat.
pub record HasSeatsBack {D : Type 0} (old new : lane.Known D) (members : List (lane.Member D)) : Type 0 where
  pub own : new.own ≡ old.own
  pub joined : new.joined ≡ old.joined ++ members
  pub parts : new.parts ≡ old.parts + length members
