use Rattle.std.proofs.Common.{◌≡◌, ℕ, ◌+◌, Option, List, sym, ap, subst, ◌∙◌}
use Rattle.std.specs.List.{AllByRecursion}
use Rattle.std.specs.Mem.Slots.{slots_items}
use Rattle.alog_core.specs.Queue.{start}
use Rattle.alog_core.specs.History.{left_by}
use Rattle.alog_ring.specs.Known.{Known}
use Rattle.alog_ring.specs.Spares.{IsSpare}
use Rattle.alog_ring.specs.Swaps.{AreSpares}
use Rattle.alog_ring.specs.Taken.{LiesFor}
use Rattle.alog_ring.proofs.SwapClosing.{cells_left, spares_left}
use Rattle.alog_ring.proofs.swap_ring.SwapRing.close.Goals as goal

pub returns-clause-left : goal.returns-clause-left
returns-clause-left g c =
    let board = c.self.inside.board
    in let key = board.table.shared.key
    in let k : Known g.row.T.Denot (Option g.row.B.Denot) = c.args.pass.known
    in let n : ℕ = board.mask + 1
    in let given : List g.row.B.Denot = c.take_spares.result.items
    in let cells = cells_left g.W.Shows.shows key.firsts.value.items (g.L.Limit.admits key.limit) k n c.close-closed.result.front
    c.close-closed.result.next (slots_items c.close-closed.result.closed.slots) c.close-closed.ensures.left
    c.take_cells-cells.result.items c.take_cells-cells.ensures.cells.0 c.take_cells-cells.ensures.cells.1
    in let taken = subst (λ (l : List g.row.B.Denot). AreSpares c.close-closed.result.front c.close-closed.result.next n (LiesFor l n) n given)
    c.take_cells-cells.ensures.same.0 c.take_spares.ensures
    in let spares = spares_left g.W.Shows.shows key.firsts.value.items (g.L.Limit.admits key.limit) k n c.close-closed.result.front
    c.close-closed.result.next (slots_items c.close-closed.result.closed.slots) c.close-closed.ensures.left given taken
    in let f : ℕ = (left_by (start k.first) k.seen).front
    in let e : ℕ = (left_by (start k.first) k.seen).next
    in let count : n ≡ k.places = ap (λ r. r.ring.places) c.self.view_is ∙ sym c.requires.places
    in record {
      whole = c.close-closed.ensures.whole;
      cells = cells.0;
      spares = subst (λ (l : List g.row.B.Denot). AreSpares f e k.places (IsSpare l k.places k.seen) k.places given)
          (ap (λ r. r.firsts) c.self.view_is)
          (subst (λ (z : ℕ). AreSpares f e z (IsSpare key.firsts.value.items z k.seen) z given) count spares.0);
    }

pub returns-clause-limit : goal.returns-clause-limit
returns-clause-limit g c =
    let board = c.self.inside.board
    in let key = board.table.shared.key
    in let k : Known g.row.T.Denot (Option g.row.B.Denot) = c.args.pass.known
    in let n : ℕ = board.mask + 1
    in let given : List g.row.B.Denot = c.take_spares.result.items
    in let cells = cells_left g.W.Shows.shows key.firsts.value.items (g.L.Limit.admits key.limit) k n c.close-closed.result.front
    c.close-closed.result.next (slots_items c.close-closed.result.closed.slots) c.close-closed.ensures.left
    c.take_cells-cells.result.items c.take_cells-cells.ensures.cells.0 c.take_cells-cells.ensures.cells.1
    in let taken = subst (λ (l : List g.row.B.Denot). AreSpares c.close-closed.result.front c.close-closed.result.next n (LiesFor l n) n given)
    c.take_cells-cells.ensures.same.0 c.take_spares.ensures
    in let spares = spares_left g.W.Shows.shows key.firsts.value.items (g.L.Limit.admits key.limit) k n c.close-closed.result.front
    c.close-closed.result.next (slots_items c.close-closed.result.closed.slots) c.close-closed.ensures.left given taken
    in subst (λ r. AllByRecursion (λ (p : ℕ × g.row.B.Denot). g.L.Limit.admits r.ring.limit p.1) c.take_cells-cells.result.items
    × AllByRecursion (g.L.Limit.admits r.ring.limit) given) c.self.view_is (cells.1, spares.1)
