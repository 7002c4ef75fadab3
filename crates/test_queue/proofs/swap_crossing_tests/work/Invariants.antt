use Rattle.alog_ring.specs.Known.{IsPassOf}
use Rattle.test_queue.proofs.swap_crossing_tests.work.Given as goal

abbrev pub invariant-loop-number : goal.invariant-loop-number
invariant-loop-number g l = IsPassOf l.ring.ring l.pass
