use Rattle.alog_ring.specs.Known.{IsPassOf}
use Rattle.test_queue.proofs.ring_tests.push_at_last.Given as goal

abbrev pub invariant-loop-value : goal.invariant-loop-value
invariant-loop-value g l = IsPassOf l.ring l.pass
