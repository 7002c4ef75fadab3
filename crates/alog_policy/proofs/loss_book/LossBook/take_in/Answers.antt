use Rattle.std.proofs.Common.{sym, ap, ◌∙◌, arith}
use Rattle.alog_policy.specs.declared.loss_book.TheConstants.{OVERRUN}
use Rattle.alog_policy.proofs.BookSteps.{joins, sees_both}
use Rattle.alog_policy.proofs.loss_book.LossBook.take_in.Goals as goal

pub join_seat-requires : goal.join_seat-requires
join_seat-requires c =
    let here = ap (λ b. b.table) (sym c.self.view_is)
    in (
      c.requires.table.0 ∙ here,
      c.requires.table.1 ∙ here,
      c.requires.home,
      omega (arith, c.self.inside.sized.0),
      joins c.args.own.now.id c.args.other.id c.args.own.now.me.0 c.args.other.me.0 c.requires.stage.0 c.requires.stage.1
          c.requires.some,
    )

pub load-requires : goal.load-requires
load-requires c = (
  c.join_seat.ensures.0 ∙ c.requires.table.0 ∙ ap (λ b. b.table) (sym c.self.view_is),
  omega (arith, c.self.inside.sized.0),
  sees_both {slots = c.self.inside.table.shared.table_id.slots} c.join_seat.new.seat.id OVERRUN c.args.own.now.me.0 c.args.other.me.0
      c.join_seat.ensures.2 c.requires.faithful.0 c.requires.faithful.1,
)
