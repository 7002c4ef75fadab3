use Rattle.alog_lane.specs.Calls.{IsSeatOf}
use Rattle.test_queue.proofs.lane_tests.add.Given as goal

abbrev pub invariant-loop-item : goal.invariant-loop-item
invariant-loop-item g l = IsSeatOf l.lane l.seat
