use Rattle.std.proofs.Common.{ap, refl}
use Rattle.std.proofs.lemmas.Option.{none-some}
use Rattle.std.specs.Option.{option_copied}
use Rattle.alog_replay.specs.Command.{AnActor, AName, Only, Then}
use Rattle.alog_replay.specs.declared.command.Command.TheVariants.{Acts}
use Rattle.alog_replay.specs.declared.command.Act.TheVariants.{Flush}
use Rattle.alog_replay.proofs.CutLemmas.{none_of}
use Rattle.alog_replay.proofs.FormLemmas.{begins, is_made, parts, spelled}
use Rattle.alog_replay.proofs.parser.flush.Goals as goal

pub returns-in_err-actor : goal.returns-in_err-actor
returns-in_err-actor c = none_of _ _ c.from_residual-in_err-actor.ensures (λ command s.
    none-some _ ((c.in_err-actor.ensures s.0.0).1 (parts AnActor (Only AName) _ _ s.0 (ap option_copied c.in_ok-rest.was) c.cut.ensures s.1).0))

pub returns-in_err-logger : goal.returns-in_err-logger
returns-in_err-logger c = none_of _ _ c.from_residual-in_err-logger.ensures (λ command s.
    none-some _ ((c.in_err-logger.ensures s.0.1).1 (parts AnActor (Only AName) _ _ s.0 (ap option_copied c.in_ok-rest.was) c.cut.ensures s.1).1))

pub returns : goal.returns
returns c =
    is_made (Then AnActor (Only AName)) (λ g. Acts (Flush g.0 g.1)) _ _
    (spelled AnActor (Only AName) _ _ (begins _ _ (ap option_copied c.in_ok-rest.was) c.cut.ensures ((c.in_ok-actor.ensures _).0 refl)) ((c.in_ok-logger.ensures _).0 refl))
