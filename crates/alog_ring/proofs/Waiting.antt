-- A round that was busy, and the next one.
use Rattle.std.proofs.Common.{◌≡◌, ℕ}
use Rattle.alog_ring.specs.Known.{Known}
use Rattle.alog_ring.specs.Kinds.{no_note}
use Rattle.alog_ring.specs.Refused.{PushRefused, PopRefused}
use Rattle.alog_ring.specs.Waits.{BusyPushes, BusyPops}
use Rattle.alog_ring.specs.declared.push.PushError.TheVariants.{Busy}
use Rattle.alog_ring.specs.declared.pop.PopError.TheVariants as pop

module _ {T : Type 0} where
  pub busy_push : (old mid new : Known T no_note) (value back : T) (seen : ℕ) → BusyPushes old mid
      → PushRefused mid new value (Busy back seen) → (back ≡ value) × BusyPushes old new
  busy_push old mid new value back seen before refused = (refused.0, BusyPushes.more seen before refused.1 refused.2)

  pub busy_pop : (old mid new : Known T no_note) (seen : ℕ) → BusyPops old mid → PopRefused mid new (pop.Busy seen)
      → BusyPops old new
  busy_pop old mid new seen before refused = BusyPops.more seen before refused.0 refused.1
