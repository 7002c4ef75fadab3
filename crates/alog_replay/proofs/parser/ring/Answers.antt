use Rattle.std.proofs.Common.{refl}
use Rattle.std.proofs.lemmas.Option.{none-some}
use Rattle.alog_replay.specs.Command.{Number, Only, Then}
use Rattle.alog_replay.specs.declared.command.Command.TheVariants.{Acts}
use Rattle.alog_replay.specs.declared.command.Act.TheVariants.{Ring}
use Rattle.alog_replay.proofs.CutLemmas.{none_of}
use Rattle.alog_replay.proofs.FormLemmas.{is_made}
use Rattle.alog_replay.proofs.parser.ring.Goals as goal

pub returns-in_err-size : goal.returns-in_err-size
returns-in_err-size c =
    none_of _ _ c.from_residual.ensures (λ command s. none-some _ ((c.in_err-size.ensures s.0).1 s.1))

pub returns : goal.returns
returns c = is_made (Then Number (Only Number)) (λ g. Acts (Ring g.0 g.1)) _ _ ((c.in_ok-size.ensures _).0 refl)
