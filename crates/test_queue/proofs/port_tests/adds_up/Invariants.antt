use Rattle.alog_ring.specs.Known.{IsPassOf}
use Rattle.alog_policy.specs.BookCalls.{IsSeatOf}
use Rattle.test_queue.proofs.port_tests.adds_up.Given as goal

abbrev pub invariant-loop : goal.invariant-loop
invariant-loop g l = IsPassOf l.ring l.pass × IsSeatOf l.book l.seat
