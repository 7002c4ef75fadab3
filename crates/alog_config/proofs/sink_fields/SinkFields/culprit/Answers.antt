use Rattle.std.proofs.Common.{subst, sym}
use Rattle.alog_config.specs.Culprits.{IsSinkCulprit}
use Rattle.alog_config.specs.declared.fault.Rule.{Rule}
use Rattle.alog_config.proofs.sink_fields.SinkFields.culprit.Goals as goal

pub returns-in-BadValue : goal.returns-in-BadValue
returns-in-BadValue c =
    subst (λ (rule : Rule). IsSinkCulprit c.args.earlier.now c.args.self.now rule c.bad_key.result) (sym c.in-BadValue.is) c.bad_key.ensures
