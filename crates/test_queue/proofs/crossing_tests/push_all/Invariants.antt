use Rattle.alog_ring.specs.Known.{IsPassOf}
use Rattle.test_queue.proofs.crossing_tests.push_all.Given as goal

abbrev pub invariant-loop-number : goal.invariant-loop-number
invariant-loop-number g l = IsPassOf l.ring l.pass
