use Rattle.std.proofs.Common.{ℕ, ◌+◌, sym, subst}
use Rattle.std.specs.List.{AllByRecursion}
use Rattle.std.specs.Mem.Slots.{slots_items}
use Rattle.alog_core.specs.Queue.{start}
use Rattle.alog_core.specs.History.{left_by}
use Rattle.alog_ring.specs.Known.{RingId}
use Rattle.alog_ring.proofs.Taking.{are_values, values_admitted}
use Rattle.alog_ring.proofs.ring.Ring.close.Goals as goal

pub returns-clause-left : goal.returns-clause-left
returns-clause-left g c =
    let board = c.self.inside.board
    in let k = c.args.pass.known
    in let cells = (left_by (start k.first) k.seen).cells
    in record {
      whole = c.close-closed.ensures.whole;
      cells = c.take_out.ensures cells
          (are_values board.table.shared.key.firsts.value.items (g.L.Limit.admits board.table.shared.key.limit.limit) k.seen
          (slots_items c.close-closed.result.closed.slots) c.close-closed.result.front (board.mask + 1) cells c.close-closed.ensures.left.lie);
    }

pub returns-clause-limit : goal.returns-clause-limit
returns-clause-limit g c =
    let board = c.self.inside.board
    in let k = c.args.pass.known
    in let cells = (left_by (start k.first) k.seen).cells
    in let lie = c.close-closed.ensures.left.lie
    in let places = slots_items c.close-closed.result.closed.slots
    in let is = c.take_out.ensures cells
    (are_values board.table.shared.key.firsts.value.items (g.L.Limit.admits board.table.shared.key.limit.limit) k.seen
    places c.close-closed.result.front (board.mask + 1) cells lie)
    in subst (λ (r : RingId g.row.L.Denot). AllByRecursion (λ (p : ℕ × g.row.T.Denot). g.L.Limit.admits r.limit p.1) c.take_out.result.items)
    c.self.view_is
    (subst (AllByRecursion (λ (p : ℕ × g.row.T.Denot). g.L.Limit.admits board.table.shared.key.limit.limit p.1)) (sym is)
    (values_admitted board.table.shared.key.firsts.value.items (g.L.Limit.admits board.table.shared.key.limit.limit) k.seen places
    c.close-closed.result.front (board.mask + 1) cells lie))
