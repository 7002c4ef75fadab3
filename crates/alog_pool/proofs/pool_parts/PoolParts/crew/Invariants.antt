use Rattle.std.proofs.Common.{◌≡◌, ◌≤◌, length, map, vec_capacity}
use Rattle.std.specs.Arc.{arc_value}
use Rattle.std.specs.List.{AllByRecursion, range_with_len}
use Rattle.alog_pool.specs.Pool.{Begins, HasBlock, Stands, lanes_of}
use Rattle.alog_pool.specs.Working.{numbers_of}
use Rattle.alog_pool.proofs.pool_parts.PoolParts.crew.Given as goal

abbrev pub invariant-loop-number : goal.invariant-loop-number
invariant-loop-number g l = record {
  stands : Stands l.number l.self;
  block : HasBlock l.self;
  shared : arc_value l.self.shared ≡ arc_value l.fn.self.shared;
  lanes : lanes_of l.self.sink_seats.items ≡ lanes_of l.fn.self.sink_seats.items;
  backtrace_seats : l.self.backtrace_seats.items ≡ l.fn.self.backtrace_seats.items;
  most : l.self.tickets_max ≡ l.fn.self.tickets_max;
  limit : l.self.text_limit ≡ l.fn.self.text_limit;
  workers : l.self.workers ≡ l.fn.self.workers;
  began : AllByRecursion (Begins (arc_value l.fn.self.shared) (lanes_of l.fn.self.sink_seats.items) l.fn.self.tickets_max)
      (map (λ h. h.promise.start.value) l.workers.items);
  count : length l.workers.items ≡ l.number;
  numbers : numbers_of (map (λ h. h.promise.start.value) l.workers.items) ≡ range_with_len 0 l.number;
  within : l.number ≤ l.number-end;
  end : l.number-end ≡ l.fn.self.workers;
  room : l.fn.self.workers ≤ vec_capacity l.workers;
}
