use Rattle.alog_ring.specs.Known.{IsPassOf}
use Rattle.alog_policy.specs.BookCalls.{IsSeatOf}
use Rattle.test_queue.proofs.port_tests.are_discarded.Given as goal

abbrev pub invariant-loop-policy : goal.invariant-loop-policy
invariant-loop-policy g l = IsPassOf l.ring l.pass × IsSeatOf l.book l.seat
