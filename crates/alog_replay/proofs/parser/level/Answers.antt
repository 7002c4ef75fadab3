use Rattle.std.proofs.Common.{ap, refl, sym}
use Rattle.std.proofs.lemmas.Option.{none-some}
use Rattle.std.specs.Option.{option_copied}
use Rattle.alog_replay.specs.Command.{AName, ALevel, Only, Then}
use Rattle.alog_replay.specs.declared.command.Command.TheVariants.{Acts}
use Rattle.alog_replay.specs.declared.command.Act.TheVariants.{Level}
use Rattle.alog_replay.proofs.CutLemmas.{none_of}
use Rattle.alog_replay.proofs.FormLemmas.{begins, is_made, parts, spelled}
use Rattle.alog_replay.proofs.parser.level.Goals as goal

pub returns-in_err-level : goal.returns-in_err-level
returns-in_err-level c = none_of _ _ c.from_residual-in_err-level.ensures (λ command s.
    none-some _ ((c.in_err-level.ensures s.0.1).1 (parts AName (Only ALevel) _ _ s.0 (ap option_copied c.in_ok-rest.was) c.cut.ensures s.1).1))

pub returns : goal.returns
returns c =
    is_made (Then AName (Only ALevel)) (λ g. Acts (Level g.0 g.1)) _ _
    (spelled AName (Only ALevel) _ _ (begins _ _ (ap option_copied c.in_ok-rest.was) c.cut.ensures (sym c.new-logger.ensures, c.cut.ensures.1)) ((c.in_ok-level.ensures _).0 refl))
