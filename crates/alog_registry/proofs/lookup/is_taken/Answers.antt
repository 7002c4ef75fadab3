use Rattle.std.proofs.Common.{◌↔◌, sym, subst}
use Rattle.std.specs.Bool.{IsTrue}
use Rattle.alog_registry.specs.Listed.{IsTaken}
use Rattle.alog_registry.proofs.Listing.{taken_if_found}
use Rattle.alog_registry.proofs.lookup.is_taken.Goals as goal

pub returns : goal.returns
returns c =
    let ls = c.args.loggers.now in
    let name = c.args.name.now in
    subst (λ b. IsTrue b ↔ IsTaken ls name) (sym c.is_some.ensures) (taken_if_found ls name c.number_of.result c.number_of.ensures)
