-- The producers of a load while they log and when they are back.
use Rattle.std.specs.Prelude.{◌≡◌, ℕ, Bool, true, List, length}
use Rattle.std.specs.List.{AllByRecursion}
use Rattle.alog_load.specs.Load.{HasServed}
use Rattle.alog_load.specs.declared.load_seat.LoadSeat.{LoadSeat}
use Rattle.alog_pool.specs.Places.{Each2}
use Rattle.alog_pool.specs.Pool.{PoolView}
use Rattle.alog_pool.specs.Producer.{ProducerView}
use Rattle.alog_server.specs.Making.{AreOf, MakesAll}

-- its producer has so many loggers
abbrev pub HaveLoggers : ℕ → LoadSeat → Type 0
HaveLoggers loggers s = loggers ≡ length s.producer.shared.loggers

-- each logged all its messages
abbrev pub AreDone : List LoadSeat → Type 0
AreDone seats = AllByRecursion (λ (s : LoadSeat). s.done ≡ true) seats

-- The pool made producers, and they are back. Where all was done, there are as many as were asked for, and each logged all its
-- messages.
pub record Runs {S : Type 0} (old new : PoolView S) (count loggers messages : ℕ) (back : List ProducerView) (done : Bool) : Type 0 where
  pub begun : List ProducerView
  pub makes : MakesAll old begun new
  pub many : length back ≡ length begun
  pub own : AreOf old.shared back
  pub each : done ≡ true → (length begun ≡ count) × Each2 (HasServed loggers messages) begun back
