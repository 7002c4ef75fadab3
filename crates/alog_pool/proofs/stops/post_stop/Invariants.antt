use Rattle.std.specs.Prelude.{[]}
use Rattle.alog_registry.specs.Limit.{HoldsTo}
use Rattle.alog_ring.specs.Known.{IsPassOf}
use Rattle.alog_pool.specs.Accounts.{Moved}
use Rattle.alog_pool.proofs.stops.post_stop.Given as goal

abbrev pub invariant-loop : goal.invariant-loop
invariant-loop g l = IsPassOf l.ring.ring l.pass × HoldsTo l.ring.ring.limit l.hand × Moved l.initial.pass.known l.pass.known [] []
