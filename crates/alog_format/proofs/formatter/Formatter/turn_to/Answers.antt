use Rattle.std.proofs.Common.{ap, ◌∙◌, FitsSigned, w64, rules}
use Rattle.std.proofs.lemmas.Int.{to_z-of_z}
use Rattle.alog_format.specs.Lasting.{FormatterView}
use Rattle.alog_format.proofs.formatter.Formatter.turn_to.Goals as goal

pub remember-requires-clause-shown : goal.remember-requires-clause-shown
remember-requires-clause-shown c =
    let time : FitsSigned w64 c.args.message.now.time = search rules in
    simp to_z-of_z at c.show.ensures.shown

pub returns-then-self-clause-shown : goal.returns-then-self-clause-shown
returns-then-self-clause-shown c =
    let time : FitsSigned w64 c.args.message.now.time = search rules in
    let shown = simp to_z-of_z at c.show.ensures.shown in
    (shown.0, shown.1, ap (λ (v : FormatterView). v.at) c.remember.ensures.same ∙ shown.2)

pub returns-else-not-show-clause-shown : goal.returns-else-not-show-clause-shown
returns-else-not-show-clause-shown c =
    let time : FitsSigned w64 c.args.message.now.time = search rules in
    simp to_z-of_z at c.show.ensures.shown
