use Rattle.alog_ring.specs.Known.{IsPassOf}
use Rattle.alog_policy.specs.BookCalls.{IsSeatOf}
use Rattle.test_queue.proofs.swap_port_tests.go_on_by_hand.Given as goal

abbrev pub invariant-loop-row : goal.invariant-loop-row
invariant-loop-row g l = IsPassOf l.ring.ring l.pass × IsSeatOf l.book l.seat
