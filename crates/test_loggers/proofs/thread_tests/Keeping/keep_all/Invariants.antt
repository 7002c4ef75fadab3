use Rattle.alog_lane.specs.Calls.{IsSeatOf}
use Rattle.test_loggers.proofs.thread_tests.Keeping.keep_all.Given as goal

abbrev pub invariant-loop-message : goal.invariant-loop-message
invariant-loop-message l = IsSeatOf l.lane l.own.seat

abbrev pub decreases-loop-message : goal.decreases-loop-message
decreases-loop-message l = goal.left-loop-message l
