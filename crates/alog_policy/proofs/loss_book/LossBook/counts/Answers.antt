use Rattle.std.proofs.Common.{sym, ap, subst, ◌∙◌, arith}
use Rattle.alog_policy.specs.declared.loss_book.TheConstants.{OVERRUN, DISCARDED}
use Rattle.alog_lane.specs.Seats.{Known}
use Rattle.alog_policy.specs.BookAdds.{Add}
use Rattle.alog_policy.specs.BookCalls.{AreCounted}
use Rattle.alog_policy.proofs.BookSteps.{looks}
use Rattle.alog_policy.proofs.BookCounting.{counted}
use Rattle.alog_policy.proofs.loss_book.LossBook.counts.Goals as goal

pub load-overrun-requires : goal.load-overrun-requires
load-overrun-requires c =
    let seat = c.seat.inside.seat
    in (
      ap (λ s. s.table) c.seat.view_is ∙ c.requires.table ∙ ap (λ b. b.table) (sym c.self.view_is),
      omega (arith, c.self.inside.sized.0),
      looks c.self.inside.table.shared.table_id.slots seat.id seat.me OVERRUN (λ h words tells. tells.overrun) c.seat.invariant.0,
    )

pub load-discarded-requires : goal.load-discarded-requires
load-discarded-requires c =
    let seat = c.load-overrun.new.seat
    in (
      c.load-overrun.ensures.0 ∙ ap (λ s. s.table) c.seat.view_is ∙ c.requires.table ∙ ap (λ b. b.table) (sym c.self.view_is),
      omega (arith, c.self.inside.sized.0),
      looks c.self.inside.table.shared.table_id.slots seat.id seat.me DISCARDED (λ h words tells. tells.discarded)
          c.load-overrun.ensures.2.stage,
    )

pub returns-clause-counted : goal.returns-clause-counted
returns-clause-counted c =
    let K : Known Add → Type 0 = λ k. AreCounted k c.load-discarded.new.seat.me.0.known
    (record { overrun = c.load-overrun.result; discarded = c.load-discarded.result })
    in subst K (ap (λ s. s.known) c.seat.view_is)
    (counted c.seat.inside.seat.me c.load-overrun.new.seat.me c.load-discarded.new.seat.me c.load-overrun.result
    c.load-discarded.result c.load-overrun.ensures.2 c.load-discarded.ensures.2 c.seat.invariant.5)
