use Rattle.std.proofs.Common.{inl, inr, refl, subst, Result}
use Rattle.std.proofs.KnownBytes.{Keeps-refl}
use Rattle.alog_config.specs.Meaning.{Reads}
use Rattle.alog_config.specs.declared.config.Config.{Config}
use Rattle.alog_config.specs.declared.fault.ConfigFault.{ConfigFault}
use Rattle.alog_program.proofs.replay_config.replay_document.Goals as goal

pub returns-in-Ok-clause-replays : goal.returns-in-Ok-clause-replays
returns-in-Ok-clause-replays g c =
    let reads = subst (λ (r : Result Config ConfigFault). Reads c.args.document.now r) c.in-Ok.is c.read.ensures in
    inr (inr (c.in-Ok.config, reads, c.replay_on.ensures.replays))

pub returns-in-Err-clause-replays : goal.returns-in-Err-clause-replays
returns-in-Err-clause-replays g c =
    let reads = subst (λ (r : Result Config ConfigFault). Reads c.args.document.now r) c.in-Err.is c.read.ensures in
    let kept = Keeps-refl (g.O.Write.contents c.args.output.now) in
    elim c.refuse.ensures [
      | inl memory ↦ inr (inl (memory.1, (refl, kept)))
      | inr other ↦ inl (other.1, (c.in-Err.fault, other.0, reads), (refl, kept))
    ]
