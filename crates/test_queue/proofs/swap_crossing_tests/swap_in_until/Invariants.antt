use Rattle.alog_ring.specs.Known.{IsPassOf}
use Rattle.test_queue.proofs.swap_crossing_tests.swap_in_until.Given as goal

abbrev pub invariant-loop : goal.invariant-loop
invariant-loop g l = IsPassOf l.ring.ring l.pass
