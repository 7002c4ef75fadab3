use Rattle.alog_lane.specs.Calls.{IsSeatOf}
use Rattle.test_loggers.proofs.thread_tests.Meeting.keep_until_held.Given as goal

abbrev pub invariant-loop-time : goal.invariant-loop-time
invariant-loop-time l = IsSeatOf l.lane l.own.seat
