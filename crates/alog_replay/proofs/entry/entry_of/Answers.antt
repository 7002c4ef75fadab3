use Rattle.std.proofs.Common.{refl, sym, ◌∙◌, subst}
use Rattle.std.proofs.lemmas.Bool.{false≢true}
use Rattle.std.proofs.lemmas.Option.{none-some}
use Rattle.alog_replay.specs.Command.{Spells}
use Rattle.alog_replay.specs.Entry.{IsSkipped}
use Rattle.alog_replay.proofs.EntryLemmas.{is_command, is_no_command, is_skip}
use Rattle.alog_replay.proofs.entry.entry_of.Goals as goal

pub returns-in-Some : goal.returns-in-Some
returns-in-Some c =
    let text = c.in-Ok.ensures.cases in
    let spelled = (c.in-Some.ensures c.in-Some.command).0 refl in
    is_command c.args.line.now c.in-Some.command (c.requires, text.1) (subst (λ l. Spells l c.in-Some.command) text.0 spelled)

pub returns-in-None : goal.returns-in-None
returns-in-None c =
    let text = c.in-Ok.ensures.cases in
    is_no_command c.args.line.now
    (λ s. false≢true (sym c.if-is_skipped.false ∙ c.is_skipped.ensures.1 (subst IsSkipped (sym text.0) s)))
    (λ command s. none-some _ ((c.in-None.ensures command).1 (subst (λ l. Spells l command) (sym text.0) s)))

pub returns-then-is_skipped : goal.returns-then-is_skipped
returns-then-is_skipped c =
    let text = c.in-Ok.ensures.cases in
    is_skip c.args.line.now (c.requires, text.1) (subst IsSkipped text.0 (c.is_skipped.ensures.0 c.if-is_skipped.true))
