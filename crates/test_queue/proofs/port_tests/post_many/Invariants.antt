use Rattle.alog_ring.specs.Known.{IsPassOf}
use Rattle.alog_policy.specs.BookCalls.{IsSeatOf}
use Rattle.test_queue.proofs.port_tests.post_many.Given as goal

abbrev pub invariant-loop-value : goal.invariant-loop-value
invariant-loop-value g l = IsPassOf l.ring l.pass × IsSeatOf l.book l.seat
