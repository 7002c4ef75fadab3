use Rattle.alog_lane.specs.Calls.{IsSeatOf}
use Rattle.test_loggers.proofs.dump_tests.keeps_three.Given as goal

abbrev pub invariant-loop-time : goal.invariant-loop-time
invariant-loop-time g l = IsSeatOf l.lane l.seat
