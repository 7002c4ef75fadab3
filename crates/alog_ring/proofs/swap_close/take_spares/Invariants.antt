use Rattle.std.proofs.Common.{◌≡◌, ◌+◌, ◌≤◌, vec_capacity}
use Rattle.std.specs.Mem.Slots.{slots_items, slots_filled, slots_len}
use Rattle.alog_ring.proofs.SwapTaking.{Spared}
use Rattle.alog_ring.proofs.swap_close.take_spares.Given as goal

abbrev pub invariant-loop-place : goal.invariant-loop-place
invariant-loop-place g l =
    Spared (slots_items l.fn.closed.slots) (l.fn.mask + 1) l.fn.front l.fn.next l.place (slots_filled l.closed.slots) l.spares.items
    × (slots_items l.closed.slots ≡ slots_items l.fn.closed.slots)
    × (slots_len l.closed.slots ≡ l.fn.mask + 1)
    × (l.fn.mask + 1 ≤ vec_capacity l.spares)
