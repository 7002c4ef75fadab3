use Rattle.std.proofs.Common.{◌≡◌, ◌≤◌, length, vec_capacity}
use Rattle.example_host.proofs.stores.Given as goal

abbrev pub invariant-loop-number : goal.invariant-loop-number
invariant-loop-number l = record {
  count : length l.stores.items ≡ l._number;
  within : l._number ≤ l.fn.count;
  room : l.fn.count ≤ vec_capacity l.stores;
}
