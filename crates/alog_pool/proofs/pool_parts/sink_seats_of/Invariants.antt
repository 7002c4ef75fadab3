use Rattle.std.proofs.Common.{◌≤◌, length, vec_capacity}
use Rattle.alog_pool.specs.Places.{Each2, IsFirst}
use Rattle.alog_pool.proofs.pool_parts.sink_seats_of.Given as goal

abbrev pub invariant-loop-sink : goal.invariant-loop-sink
invariant-loop-sink g l = Each2 (IsFirst l.text_limit) l.yielded l.sink_seats.items × (length l.fn.sinks.items ≤ vec_capacity l.sink_seats)
