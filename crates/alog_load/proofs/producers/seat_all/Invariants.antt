use Rattle.std.proofs.Common.{◌≡◌, ◌≤◌, length, vec_capacity}
use Rattle.alog_load.proofs.Going.{producers_at}
use Rattle.alog_server.specs.Making.{MakesAll}
use Rattle.alog_load.proofs.producers.seat_all.Given as goal

abbrev pub invariant-loop-number : goal.invariant-loop-number
invariant-loop-number g l = record {
  makes : MakesAll l.fn.pool (producers_at l.seats.items) l.pool;
  count : length l.seats.items ≡ l._number;
  within : l._number ≤ l.fn.count;
  room : l.fn.count ≤ vec_capacity l.seats;
}
