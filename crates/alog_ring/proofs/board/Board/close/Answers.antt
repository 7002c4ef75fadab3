use Rattle.std.proofs.Common.{ap, ◌∙◌}
use Rattle.std.specs.Mem.Slots.{slots_items}
use Rattle.alog_ring.proofs.Closing.{AtEnd}
use Rattle.alog_ring.proofs.Ending.{ends}
use Rattle.alog_ring.proofs.board.Board.close.Goals as goal

pub returns-clause-whole : goal.returns-clause-whole
returns-clause-whole g c =
    let key = c.args.self.table.shared.key
    in let end : AtEnd g.K.Kind.kind key.firsts.value.items (g.L.Limit.admits key.limit) key.places key.first
    c.pass.inside.seat.me.0 (slots_items c.close_with-closed.result.words) (slots_items c.close_with-closed.result.slots) =
    record {
      id = c.pass.inside.seat.id;
      fin = c.close_with-closed.ensures.values.2;
      idle = c.pass.invariant.0;
      all = ap (λ p. p.known.parts) c.pass.view_is ∙ c.requires.all;
    }
    in (ends end {front = c.word-front.result} {next = c.word-next.result} (ap (λ p. p.known) c.pass.view_is) c.args.self.sized.2
    c.pass.invariant.5 c.word-front.ensures c.word-next.ensures).0

pub returns-clause-left : goal.returns-clause-left
returns-clause-left g c =
    let key = c.args.self.table.shared.key
    in let end : AtEnd g.K.Kind.kind key.firsts.value.items (g.L.Limit.admits key.limit) key.places key.first
    c.pass.inside.seat.me.0 (slots_items c.close_with-closed.result.words) (slots_items c.close_with-closed.result.slots) =
    record {
      id = c.pass.inside.seat.id;
      fin = c.close_with-closed.ensures.values.2;
      idle = c.pass.invariant.0;
      all = ap (λ p. p.known.parts) c.pass.view_is ∙ c.requires.all;
    }
    in (ends end {front = c.word-front.result} {next = c.word-next.result} (ap (λ p. p.known) c.pass.view_is) c.args.self.sized.2
    c.pass.invariant.5 c.word-front.ensures c.word-next.ensures).1
