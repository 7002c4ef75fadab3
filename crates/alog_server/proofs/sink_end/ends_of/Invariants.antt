use Rattle.std.proofs.Common.{◌≤◌, length, take, vec_capacity}
use Rattle.alog_server.specs.SinkEnds.{TellsEach}
use Rattle.alog_server.proofs.sink_end.ends_of.Given as goal

abbrev pub invariant-loop-sink : goal.invariant-loop-sink
invariant-loop-sink l = record {
  room : length l.sinks ≤ vec_capacity l.ends;
  few : length l.ends.items ≤ l.sink-index;
  told : TellsEach l.sinks (take l.sink-index l.sinks) l.ends.items;
}
