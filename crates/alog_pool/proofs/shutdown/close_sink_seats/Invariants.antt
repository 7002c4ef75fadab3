use Rattle.std.proofs.Common.{◌≤◌, length, vec_capacity}
use Rattle.alog_pool.specs.Collected.{IsClosing}
use Rattle.alog_pool.specs.Places.{Each3}
use Rattle.alog_pool.proofs.shutdown.close_sink_seats.Given as goal

abbrev pub invariant-loop-sink_seat : goal.invariant-loop-sink_seat
invariant-loop-sink_seat g l = record {
  each : Each3 (IsClosing g.S.Store.tells g.S.Store.files g.S.Store.failures) l.yielded l.sinks.items l.faults.items;
  faults_room : length l.fn.sink_seats.items ≤ vec_capacity l.faults;
  sinks_room : length l.fn.sink_seats.items ≤ vec_capacity l.sinks;
}
