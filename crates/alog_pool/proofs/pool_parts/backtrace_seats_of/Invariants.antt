use Rattle.std.proofs.Common.{◌≡◌, ◌≤◌, length, vec_capacity}
use Rattle.alog_pool.specs.Places.{IsBacktraceSeatOf}
use Rattle.alog_pool.proofs.SharedSharing.{Matching}
use Rattle.alog_pool.proofs.pool_parts.backtrace_seats_of.Given as goal

abbrev pub invariant-loop-number : goal.invariant-loop-number
invariant-loop-number l = record {
  each : Matching (IsBacktraceSeatOf l.text_limit) l.number l.loggers l.backtrace_seats.items;
  within : l.number ≤ l.number-end;
  end : l.number-end ≡ length l.loggers;
  room : length l.loggers ≤ vec_capacity l.backtrace_seats;
}
