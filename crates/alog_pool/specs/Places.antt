-- The places of a pool: its own at each sink and at each backtrace, and those that it gives to workers and producers.
use Rattle.std.specs.Prelude.{◌≡◌, ◌<◌, ℕ, List, [], ◌∷◌}
use Rattle.std.specs.Arc.{arc_value}
use Rattle.std.specs.List.{AllByRecursion}
use Rattle.alog_lane.specs.Seats.{IsSplit, first_known}
use Rattle.alog_pool.specs.SinkSeat.{SinkSeatView}
use Rattle.alog_pool.specs.BacktraceSeat.{BacktraceSeatView}
use Rattle.alog_pool.specs.declared.backtrace_seat.Spare.{Spare}
use Rattle.alog_registry.specs.Backtrace.{room_for}
use Rattle.alog_registry.specs.declared.logger.Logger.{Logger}
use Rattle.alog_sink.specs.declared.sink.Sink.{Sink}

-- this holds of each two that stand at one place of these lists
abbrev pub Each2 : {A B : Type 0} → (A → B → Type 0) → List A → List B → Type 0
Each2 R [] [] = Unit {0}
Each2 R (x ∷ xs) (y ∷ ys) = R x y × Each2 R xs ys
Each2 R xs ys = ⊥

-- this holds of each three that stand at one place of these lists
abbrev pub Each3 : {A B C : Type 0} → (A → B → C → Type 0) → List A → List B → List C → Type 0
Each3 R [] [] [] = Unit {0}
Each3 R (x ∷ xs) (y ∷ ys) (z ∷ zs) = R x y z × Each3 R xs ys zs
Each3 R xs ys zs = ⊥

-- The first place at a sink: it has all parts, and made nothing.
pub record IsFirst {S : Type 0} (limit : ℕ) (sink : Sink S) (b : SinkSeatView S) : Type 0 where
  pub lane : b.lane.first ≡ sink
  pub limit_is : b.limit ≡ limit
  pub known : b.seat.known ≡ first_known
  pub faults : b.faults ≡ 0

-- The place gave one of its parts to another at the same sink, which made nothing.
pub record IsPart {S : Type 0} (old new given : SinkSeatView S) : Type 0 where
  pub same : (new.lane ≡ old.lane) × (new.limit ≡ old.limit) × (new.faults ≡ old.faults)
  pub given_lane : (given.lane ≡ old.lane) × (given.limit ≡ old.limit) × (given.faults ≡ 0)
  pub split : IsSplit old.seat.known new.seat.known given.seat.known 1

-- each place has a part to spare
abbrev pub AreSpare : {S : Type 0} → List (SinkSeatView S) → Type 0
AreSpare {S} bs = AllByRecursion (λ (b : SinkSeatView S). 1 < b.seat.known.parts) bs

-- the first place at the backtrace of this logger, of texts of so many bytes
pub record IsBacktraceSeatOf (limit : ℕ) (l : Logger) (k : BacktraceSeatView) : Type 0 where
  pub room : k.lane.first ≡ room_for l.spec.backtrace limit
  pub known : k.seat.known ≡ first_known

-- it shares the lane of this place, and has a list of the room that the place's list has
pub record IsSpareOf (k : BacktraceSeatView) (s : Spare) : Type 0 where
  pub lane : arc_value s.lane ≡ k.lane
  pub list : s.scratch.list ≡ k.scratch.list

-- The place at a backtrace gave one of its parts to another, which kept nothing.
pub record IsBacktraceSeatPart (old new given : BacktraceSeatView) : Type 0 where
  pub same : (new.lane ≡ old.lane) × (new.scratch ≡ old.scratch)
  pub given_lane : given.lane ≡ old.lane
  pub split : IsSplit old.seat.known new.seat.known given.seat.known 1

-- both are places at one sink
abbrev pub IsSameLane : {S : Type 0} → SinkSeatView S → SinkSeatView S → Type 0
IsSameLane b c = c.lane ≡ b.lane
