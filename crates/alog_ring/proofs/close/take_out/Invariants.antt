use Rattle.std.proofs.Common.{◌≡◌, ◌+◌, ◌≤◌, vec_capacity}
use Rattle.std.specs.Mem.Slots.{slots_items, slots_filled, slots_len}
use Rattle.alog_ring.proofs.Taking.{HasTaken}
use Rattle.alog_ring.proofs.close.take_out.Given as goal

abbrev pub invariant-loop-i : goal.invariant-loop-i
invariant-loop-i g l =
    HasTaken (l.fn.mask + 1) l.fn.first l.i (slots_items l.fn.closed.slots) (slots_items l.closed.slots)
    (slots_filled l.closed.slots) l.left.items
    × (slots_len l.closed.slots ≡ l.fn.mask + 1)
    × (l.fn.mask + 1 ≤ vec_capacity l.left)
