use Rattle.std.proofs.Common.{sym, ap, ◌∙◌, arith}
use Rattle.alog_policy.proofs.BookSteps.{adds_items}
use Rattle.alog_policy.proofs.loss_book.LossBook.add_overrun.Goals as goal

pub fetch_add-requires : goal.fetch_add-requires
fetch_add-requires c =
    let seat = c.seat.inside.seat
    in (
      ap (λ s. s.table) c.seat.view_is ∙ c.requires.table ∙ ap (λ b. b.table) (sym c.self.view_is),
      omega (arith, c.self.inside.sized.0),
      adds_items c.self.inside.table.shared.table_id.slots seat.id seat.me c.args.items c.seat.invariant.0,
    )
