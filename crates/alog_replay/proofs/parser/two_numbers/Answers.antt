use Rattle.std.proofs.Common.{ap, refl}
use Rattle.std.proofs.lemmas.Option.{none-some}
use Rattle.std.specs.Option.{option_copied}
use Rattle.alog_replay.specs.Command.{Number, Only}
use Rattle.alog_replay.proofs.CutLemmas.{none_of}
use Rattle.alog_replay.proofs.FormLemmas.{begins, parts, is_then}
use Rattle.alog_replay.proofs.parser.two_numbers.Goals as goal

pub returns-in_err-first : goal.returns-in_err-first
returns-in_err-first c = none_of _ _ c.from_residual-in_err-first.ensures (λ given h.
    none-some _ ((c.in_err-first.ensures.spelled given.0).1 (parts Number (Only Number) _ _ given (ap option_copied c.in_ok-rest.was) c.cut.ensures h).0))

pub returns-in_err-second : goal.returns-in_err-second
returns-in_err-second c = none_of _ _ c.from_residual-in_err-second.ensures (λ given h.
    none-some _ ((c.in_err-second.ensures given.1).1 (parts Number (Only Number) _ _ given (ap option_copied c.in_ok-rest.was) c.cut.ensures h).1))

pub returns : goal.returns
returns c = is_then Number (Only Number) (begins _ _ (ap option_copied c.in_ok-rest.was) c.cut.ensures ((c.in_ok-first.ensures.spelled _).0 refl)) ((c.in_ok-second.ensures _).0 refl)
