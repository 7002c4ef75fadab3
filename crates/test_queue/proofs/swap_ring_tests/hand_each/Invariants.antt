use Rattle.alog_ring.specs.Known.{IsPassOf}
use Rattle.test_queue.proofs.swap_ring_tests.hand_each.Given as goal

abbrev pub invariant-loop-handed : goal.invariant-loop-handed
invariant-loop-handed g l = IsPassOf l.ring.ring l.pass
