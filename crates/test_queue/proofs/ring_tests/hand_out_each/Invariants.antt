use Rattle.alog_ring.specs.Known.{IsPassOf}
use Rattle.test_queue.proofs.ring_tests.hand_out_each.Given as goal

abbrev pub invariant-loop-is_waiting : goal.invariant-loop-is_waiting
invariant-loop-is_waiting g l = IsPassOf l.ring l.pass
