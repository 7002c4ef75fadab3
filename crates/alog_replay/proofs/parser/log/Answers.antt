use Rattle.std.proofs.Common.{ap, refl, SFits, w64, to_z-of_z, rules}
use Rattle.std.proofs.lemmas.Option.{none-some}
use Rattle.std.specs.Option.{option_copied}
use Rattle.alog_replay.specs.Command.{AnActor, Time, AName, ALevel, AText, Then}
use Rattle.alog_replay.specs.declared.command.Command.TheVariants.{Acts}
use Rattle.alog_replay.specs.declared.command.Act.TheVariants.{Log}
use Rattle.alog_replay.proofs.CutLemmas.{none_of}
use Rattle.alog_replay.proofs.FormLemmas.{begins, is_made, parts, spelled}
use Rattle.alog_replay.proofs.parser.log.Goals as goal

pub returns-in_err-actor : goal.returns-in_err-actor
returns-in_err-actor c = none_of _ _ c.from_residual-in_err-actor.ensures (λ command s.
    none-some _ ((c.in_err-actor.ensures s.0.0).1 (parts AnActor (Then Time (Then AName (Then ALevel AText))) _ _ s.0 (ap option_copied c.in_ok-rest.was) c.cut.ensures s.1).0))

pub returns-in_err-time : goal.returns-in_err-time
returns-in_err-time c = none_of _ _ c.from_residual-in_err-time.ensures (λ command s.
    none-some _ ((c.in_err-time.ensures s.0.1).1 (parts AnActor (Then Time (Then AName (Then ALevel AText))) _ _ s.0 (ap option_copied c.in_ok-rest.was) c.cut.ensures s.1).1))

pub returns : goal.returns
returns c =
    let fits : SFits w64 c.in_ok-time.time = search rules in
    rw (to_z-of_z fits) (is_made (Then AnActor (Then Time (Then AName (Then ALevel AText)))) (λ g. Acts (Log g.0 g.1.0 g.1.1.0 g.1.1.1.0 g.1.1.1.1)) _ _
    (spelled AnActor (Then Time (Then AName (Then ALevel AText))) _ _ (begins _ _ (ap option_copied c.in_ok-rest.was) c.cut.ensures ((c.in_ok-actor.ensures _).0 refl)) ((c.in_ok-time.ensures _).0 refl)))
