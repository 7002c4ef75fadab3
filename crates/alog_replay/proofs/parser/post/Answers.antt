use Rattle.std.proofs.Common.{ap, refl}
use Rattle.std.proofs.lemmas.Option.{none-some}
use Rattle.std.specs.Option.{option_copied}
use Rattle.alog_replay.specs.Command.{AnActor, APolicy, AText, Then}
use Rattle.alog_replay.specs.declared.command.Command.TheVariants.{Acts}
use Rattle.alog_replay.specs.declared.command.Act.TheVariants.{Post}
use Rattle.alog_replay.proofs.CutLemmas.{none_of}
use Rattle.alog_replay.proofs.FormLemmas.{begins, is_made, parts, spelled}
use Rattle.alog_replay.proofs.parser.post.Goals as goal

pub returns-in_err-actor : goal.returns-in_err-actor
returns-in_err-actor c = none_of _ _ c.from_residual-in_err-actor.ensures (λ command s.
    none-some _ ((c.in_err-actor.ensures s.0.0).1 (parts AnActor (Then APolicy AText) _ _ s.0 (ap option_copied c.in_ok-rest.was) c.cut.ensures s.1).0))

pub returns-in_err-policy : goal.returns-in_err-policy
returns-in_err-policy c = none_of _ _ c.from_residual-in_err-policy.ensures (λ command s.
    none-some _ ((c.in_err-policy.ensures s.0.1).1 (parts AnActor (Then APolicy AText) _ _ s.0 (ap option_copied c.in_ok-rest.was) c.cut.ensures s.1).1))

pub returns : goal.returns
returns c =
    is_made (Then AnActor (Then APolicy AText)) (λ g. Acts (Post g.0 g.1.0 g.1.1)) _ _
    (spelled AnActor (Then APolicy AText) _ _ (begins _ _ (ap option_copied c.in_ok-rest.was) c.cut.ensures ((c.in_ok-actor.ensures _).0 refl)) ((c.in_ok-policy.ensures _).0 refl))
