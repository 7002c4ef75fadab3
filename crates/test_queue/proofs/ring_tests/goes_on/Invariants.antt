use Rattle.alog_ring.specs.Known.{IsPassOf}
use Rattle.test_queue.proofs.ring_tests.goes_on.Given as goal

abbrev pub invariant-loop-deed : goal.invariant-loop-deed
invariant-loop-deed g l = IsPassOf l.ring l.pass
