use Rattle.alog_ring.specs.Known.{IsPassOf}
use Rattle.test_queue.proofs.step_tests.tell_each.Given as goal

abbrev pub invariant-loop-deed : goal.invariant-loop-deed
invariant-loop-deed g l = IsPassOf l.ring l.pass
