use Rattle.std.proofs.Common.{◌≡◌}
use Rattle.alog_ring.specs.Known.{IsPassOf}
use Rattle.alog_ring.specs.Waits.{BusyPushes}
use Rattle.alog_ring.proofs.ring.Ring.push_gated.Given as goal

abbrev pub invariant-loop : goal.invariant-loop
invariant-loop g l = IsPassOf l.self l.pass × (l.value ≡ l.initial.value) × BusyPushes l.initial.pass.known l.pass.known
