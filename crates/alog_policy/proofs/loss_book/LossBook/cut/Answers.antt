use Rattle.std.proofs.Common.{ℕ, ◌<◌, sym, ap, subst, ◌∙◌, arith}
use Rattle.alog_policy.specs.declared.loss_book.TheConstants.{OVERRUN}
use Rattle.alog_policy.proofs.BookSteps.{splits, names}
use Rattle.alog_policy.proofs.loss_book.LossBook.cut.Goals as goal

pub split_seat-given-requires : goal.split_seat-given-requires
split_seat-given-requires g c =
    let F : ℕ → Type 0 = λ z. z < c.args.own.now.me.0.known.parts
    in let P : ℕ → Type 0 = λ z. 0 < z
    in (
      c.requires.table ∙ ap (λ b. b.table) (sym c.self.view_is),
      omega (arith, c.self.inside.sized.0),
      splits c.args.own.now.id g.A.Amount.parts c.args.own.now.me.0 c.requires.stage (subst F c.requires.amount c.requires.fewer)
          (subst P c.requires.amount c.requires.some),
    )

pub load-requires : goal.load-requires
load-requires g c = (
  c.split_seat-given.ensures.3 ∙ c.requires.table ∙ ap (λ b. b.table) (sym c.self.view_is),
  omega (arith, c.self.inside.sized.0),
  names c.self.inside.table.shared.table_id.slots c.split_seat-given.result.id c.split_seat-given.result.me c.args.own.now.me.0
      g.A.Amount.parts OVERRUN _ c.split_seat-given.ensures.4,
)
