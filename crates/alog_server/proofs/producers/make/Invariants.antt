use Rattle.std.proofs.Common.{◌≡◌, ◌≤◌, length, vec_capacity}
use Rattle.alog_server.specs.Making.{MakesAll}
use Rattle.alog_server.proofs.producers.make.Given as goal

abbrev pub invariant-loop-number : goal.invariant-loop-number
invariant-loop-number g l = record {
  makes : MakesAll l.fn.pool l.producers.items l.pool;
  count : length l.producers.items ≡ l._number;
  within : l._number ≤ l.fn.count;
  room : l.fn.count ≤ vec_capacity l.producers;
}
