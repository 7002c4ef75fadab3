use Rattle.std.proofs.Common.{◌≡◌, ◌+◌, ◌≤◌, length, vec_capacity}
use Rattle.std.specs.Mem.Slots.{slots_items, slots_filled, slots_len}
use Rattle.alog_ring.specs.Taken.{AreOf}
use Rattle.alog_ring.proofs.SwapTaking.{Emptied}
use Rattle.alog_ring.proofs.swap_close.take_cells.Given as goal

abbrev pub invariant-loop-ticket : goal.invariant-loop-ticket
invariant-loop-ticket g l =
    Emptied (l.fn.mask + 1) l.fn.front l.ticket (slots_filled l.closed.slots)
    × (slots_items l.closed.slots ≡ slots_items l.fn.closed.slots)
    × (slots_len l.closed.slots ≡ l.fn.mask + 1)
    × AreOf (slots_items l.fn.closed.slots) (l.fn.mask + 1) l.fn.front l.cells.items
    × (l.fn.front + length l.cells.items ≡ l.ticket)
    × (l.fn.mask + 1 ≤ vec_capacity l.cells)
