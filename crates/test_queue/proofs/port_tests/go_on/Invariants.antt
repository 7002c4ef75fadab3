use Rattle.alog_ring.specs.Known.{IsPassOf}
use Rattle.alog_policy.specs.BookCalls.{IsSeatOf}
use Rattle.test_queue.proofs.port_tests.go_on.Given as goal

abbrev pub invariant-loop-way : goal.invariant-loop-way
invariant-loop-way g l = IsPassOf l.ring l.pass × IsSeatOf l.book l.seat
