use Rattle.std.proofs.Common.{ap, refl, sym}
use Rattle.std.proofs.lemmas.Option.{none-some}
use Rattle.std.specs.Option.{option_copied}
use Rattle.alog_replay.specs.Command.{AName, ALevel, AText, Then}
use Rattle.alog_replay.proofs.CutLemmas.{none_of}
use Rattle.alog_replay.proofs.FormLemmas.{begins, parts, is_then}
use Rattle.alog_replay.proofs.parser.name_level_and_text.Goals as goal

pub returns-in_err-more : goal.returns-in_err-more
returns-in_err-more c = none_of _ _ c.from_residual-in_err-more.ensures (λ given h.
    none-some _ ((c.in_err-more.ensures given.1).1 (parts AName (Then ALevel AText) _ _ given (ap option_copied c.in_ok-rest.was) c.cut.ensures h).1))

pub returns : goal.returns
returns c = is_then AName (Then ALevel AText) (begins _ _ (ap option_copied c.in_ok-rest.was) c.cut.ensures (sym c.new.ensures, c.cut.ensures.1)) ((c.in_ok-more.ensures _).0 refl)
