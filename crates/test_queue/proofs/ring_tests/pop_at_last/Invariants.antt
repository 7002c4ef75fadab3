use Rattle.alog_ring.specs.Known.{IsPassOf}
use Rattle.test_queue.proofs.ring_tests.pop_at_last.Given as goal

abbrev pub invariant-loop-wanted : goal.invariant-loop-wanted
invariant-loop-wanted g l = IsPassOf l.ring l.pass
