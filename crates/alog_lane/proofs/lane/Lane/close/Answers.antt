use Rattle.std.proofs.Common.{sym, ap, subst, ◌∙◌}
use Rattle.std.specs.Mem.Slots.{slots_items}
use Rattle.alog_lane.specs.Seats.{Known}
use Rattle.alog_lane.specs.Turns.{Turned}
use Rattle.alog_lane.specs.Calls.{Closes}
use Rattle.alog_lane.proofs.Closing.{closes}
use Rattle.alog_lane.proofs.lane.Lane.close.Goals as goal

pub returns-clause-value : goal.returns-clause-value
returns-clause-value g c =
    let D : Type 0 = Turned g.row.T-Item.Denot g.row.T-Scratch.Denot g.row.T-Reply.Denot
    in let seat = c.seat.inside.seat
    in let closed = c.close_with-closed.result
    in let known = ap (λ s. s.known) c.seat.view_is
    in let F : g.row.T.Denot → Type 0 = λ v. Closes g.T.Turn.turns v c.args.seat.known c.take-value.result.value
    in let K : Known D → Type 0 = λ k. Closes g.T.Turn.turns c.self.inside.table.shared.key.value k c.take-value.result.value
    in subst F (ap (λ l. l.first) c.self.view_is)
    (subst K known (closes g.T.Turn.turns g.T.Turn.may_turn c.self.inside.table.shared.key.value seat.id seat.me.0
    (slots_items closed.slots) c.close_with-closed.ensures.values.2 c.seat.invariant.0
    (sym c.seat.invariant.2 ∙ c.if-seat-ne-ALL_PARTS.false) c.seat.invariant.5 {c = c.take-value.result} c.take-value.ensures.value))
