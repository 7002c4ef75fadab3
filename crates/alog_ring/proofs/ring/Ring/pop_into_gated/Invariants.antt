use Rattle.std.proofs.Common.{◌≡◌, None}
use Rattle.alog_ring.specs.Known.{IsPassOf}
use Rattle.alog_ring.specs.Waits.{BusyPops}
use Rattle.alog_ring.proofs.ring.Ring.pop_into_gated.Given as goal

abbrev pub invariant-loop : goal.invariant-loop
invariant-loop g l = IsPassOf l.self l.pass × (l.hand ≡ None) × BusyPops l.initial.pass.known l.pass.known
