use Rattle.alog_lane.specs.Calls.{IsSeatOf}
use Rattle.test_queue.proofs.lane_tests.add_ones.Given as goal

abbrev pub invariant-loop : goal.invariant-loop
invariant-loop l = IsSeatOf l.lane l.seat
