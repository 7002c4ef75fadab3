use Rattle.std.proofs.Common.{refl}
use Rattle.std.proofs.lemmas.Option.{none-some}
use Rattle.alog_replay.specs.Command.{AnActor, Only}
use Rattle.alog_replay.specs.declared.command.Command.TheVariants.{Run}
use Rattle.alog_replay.proofs.CutLemmas.{none_of}
use Rattle.alog_replay.proofs.FormLemmas.{is_made}
use Rattle.alog_replay.proofs.parser.run.Goals as goal

pub returns-in_err-actor : goal.returns-in_err-actor
returns-in_err-actor c =
    none_of _ _ c.from_residual.ensures (λ command s. none-some _ ((c.in_err-actor.ensures s.0).1 s.1))

pub returns : goal.returns
returns c = is_made (Only AnActor) (λ g. Run g) _ _ ((c.in_ok-actor.ensures _).0 refl)
