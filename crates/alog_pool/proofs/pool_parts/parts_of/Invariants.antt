use Rattle.std.proofs.Common.{◌≡◌, ◌≤◌, length, vec_capacity}
use Rattle.alog_pool.specs.Places.{IsPart}
use Rattle.alog_pool.proofs.SharedSharing.{Sharing}
use Rattle.alog_pool.proofs.pool_parts.parts_of.Given as goal

abbrev pub invariant-loop-place : goal.invariant-loop-place
invariant-loop-place g l = record {
  shared : Sharing IsPart l.place l.fn.sink_seats.items l.sink_seats.items l.parts.items;
  end : l.place-end ≡ length l.fn.sink_seats.items;
  room : length l.fn.sink_seats.items ≤ vec_capacity l.parts;
}
