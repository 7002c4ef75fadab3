use Rattle.std.proofs.Common.{sym, ap, subst, ◌∙◌}
use Rattle.std.specs.Mem.Slots.{slots_items}
use Rattle.alog_lane.specs.Seats.{Known}
use Rattle.alog_policy.specs.declared.counts.Counts.{Counts}
use Rattle.alog_policy.specs.BookAdds.{Add}
use Rattle.alog_policy.specs.BookCalls.{Closes}
use Rattle.alog_policy.proofs.BookClosing.{closes}
use Rattle.alog_policy.proofs.loss_book.LossBook.close.Goals as goal

pub returns-clause-sums : goal.returns-clause-sums
returns-clause-sums c =
    let seat = c.seat.inside.seat
    in let closed = c.close_with-closed.result
    in let counts : Counts = record { overrun = c.word.result; discarded = c.word-2.result }
    in let K : Known Add → Type 0 = λ k. Closes k counts
    in subst K (ap (λ s. s.known) c.seat.view_is)
    (closes seat.id seat.me.0 (slots_items closed.slots) c.close_with-closed.ensures.values.2 c.seat.invariant.0
    (sym c.seat.invariant.2 ∙ c.if-seat-ne-ALL_PARTS.false) c.seat.invariant.5 {c = counts} (c.word.ensures, c.word-2.ensures))
