use Rattle.std.proofs.Common.{◌≡◌, ◌≤◌, length, vec_capacity}
use Rattle.alog_pool.specs.Places.{IsBacktraceSeatOf}
use Rattle.alog_pool.specs.Pool.{backtrace_seat_lanes}
use Rattle.alog_pool.proofs.SharedSharing.{Matching}
use Rattle.alog_hosted.proofs.outfit.backtraces_of.Given as goal

abbrev pub invariant-loop-number : goal.invariant-loop-number
invariant-loop-number l = record {
  each : Matching (IsBacktraceSeatOf l.text_limit) l.number l.loggers l.places.items;
  lanes_are : backtrace_seat_lanes l.places.items ≡ l.lanes.items;
  within : l.number ≤ l.number-end;
  end : l.number-end ≡ length l.loggers;
  room : length l.loggers ≤ vec_capacity l.places;
  lane_room : length l.loggers ≤ vec_capacity l.lanes;
}
