use Rattle.alog_registry.specs.Limit.{HoldsTo}
use Rattle.alog_ring.specs.Known.{IsPassOf}
use Rattle.alog_pool.proofs.Halting.{HasPut}
use Rattle.alog_pool.proofs.stops.post_stops.Given as goal

abbrev pub invariant-loop-posted : goal.invariant-loop-posted
invariant-loop-posted g l = IsPassOf l.ring.ring l.pass × HoldsTo l.ring.ring.limit l.hand × HasPut l.initial.pass.known l.pass.known l._posted
