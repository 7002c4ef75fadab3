use Rattle.std.proofs.Common.{ap, refl}
use Rattle.std.proofs.lemmas.Option.{none-some}
use Rattle.std.specs.Option.{option_copied}
use Rattle.alog_replay.specs.Command.{APolicy, AText}
use Rattle.alog_replay.proofs.CutLemmas.{none_of}
use Rattle.alog_replay.proofs.FormLemmas.{begins, parts, is_then}
use Rattle.alog_replay.proofs.parser.policy_and_text.Goals as goal

pub returns-in_err-policy : goal.returns-in_err-policy
returns-in_err-policy c = none_of _ _ c.from_residual-in_err-policy.ensures (λ given h.
    none-some _ ((c.in_err-policy.ensures given.0).1 (parts APolicy AText _ _ given (ap option_copied c.in_ok-rest.was) c.cut.ensures h).0))

pub returns : goal.returns
returns c = is_then APolicy AText (begins _ _ (ap option_copied c.in_ok-rest.was) c.cut.ensures ((c.in_ok-policy.ensures _).0 refl)) c.text_or_empty-text.ensures
