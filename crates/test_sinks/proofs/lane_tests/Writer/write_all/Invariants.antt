use Rattle.alog_lane.specs.Calls.{IsSeatOf}
use Rattle.alog_sink.specs.Sinks.{MayTurn}
use Rattle.test_sinks.proofs.lane_tests.Writer.write_all.Given as goal

abbrev pub invariant-loop : goal.invariant-loop
invariant-loop l = IsSeatOf l.lane l.writer.seat × MayTurn l.lane.first l.writer.text l.writer.line
