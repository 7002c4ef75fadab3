use Rattle.std.proofs.Common.{ap, refl}
use Rattle.std.proofs.lemmas.Option.{none-some}
use Rattle.std.specs.Option.{option_copied}
use Rattle.alog_replay.specs.Command.{AnActor, AText}
use Rattle.alog_replay.proofs.CutLemmas.{none_of}
use Rattle.alog_replay.proofs.FormLemmas.{begins, parts, is_then}
use Rattle.alog_replay.proofs.parser.actor_and_text.Goals as goal

pub returns-in_err-actor : goal.returns-in_err-actor
returns-in_err-actor c = none_of _ _ c.from_residual-in_err-actor.ensures (λ given h.
    none-some _ ((c.in_err-actor.ensures given.0).1 (parts AnActor AText _ _ given (ap option_copied c.in_ok-rest.was) c.cut.ensures h).0))

pub returns : goal.returns
returns c = is_then AnActor AText (begins _ _ (ap option_copied c.in_ok-rest.was) c.cut.ensures ((c.in_ok-actor.ensures _).0 refl)) c.text_or_empty-text.ensures
