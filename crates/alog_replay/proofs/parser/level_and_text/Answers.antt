use Rattle.std.proofs.Common.{ap, refl}
use Rattle.std.proofs.lemmas.Option.{none-some}
use Rattle.std.specs.Option.{option_copied}
use Rattle.alog_replay.specs.Command.{ALevel, AText}
use Rattle.alog_replay.proofs.CutLemmas.{none_of}
use Rattle.alog_replay.proofs.FormLemmas.{begins, parts, is_then}
use Rattle.alog_replay.proofs.parser.level_and_text.Goals as goal

pub returns-in_err-level : goal.returns-in_err-level
returns-in_err-level c = none_of _ _ c.from_residual-in_err-level.ensures (λ given h.
    none-some _ ((c.in_err-level.ensures given.0).1 (parts ALevel AText _ _ given (ap option_copied c.in_ok-rest.was) c.cut.ensures h).0))

pub returns : goal.returns
returns c = is_then ALevel AText (begins _ _ (ap option_copied c.in_ok-rest.was) c.cut.ensures ((c.in_ok-level.ensures _).0 refl)) c.text_or_empty-text.ensures
