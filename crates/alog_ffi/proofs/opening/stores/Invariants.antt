use Rattle.std.proofs.Common.{◌≡◌, ◌≤◌, length, vec_capacity}
use Rattle.std.specs.Arc.{arc_value}
use Rattle.alog_ffi.specs.Opening.{AreNew}
use Rattle.alog_ffi.proofs.opening.stores.Given as goal

abbrev pub invariant-loop-number : goal.invariant-loop-number
invariant-loop-number l = record {
  count : length l.stores.items ≡ l._number;
  drains : length l.drains.items ≡ l._number;
  within : l._number ≤ l.fn.count;
  room : l.fn.count ≤ vec_capacity l.stores;
  drain_room : l.fn.count ≤ vec_capacity l.drains;
  new : AreNew (arc_value l.fn.found).items l.stores.items l.drains.items;
}
