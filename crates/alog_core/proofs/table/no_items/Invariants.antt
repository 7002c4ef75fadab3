use Rattle.std.proofs.Common.{◌≡◌, None, replicate, vec_capacity}
use Rattle.alog_core.proofs.table.no_items.Given as goal

abbrev pub invariant-loop : goal.invariant-loop
invariant-loop g l = record { items : l.slots.items ≡ replicate l.counter None; room : vec_capacity l.slots ≡ l.fn.places }
