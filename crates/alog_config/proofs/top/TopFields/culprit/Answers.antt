use Rattle.std.proofs.Common.{sym, subst}
use Rattle.alog_config.specs.Culprits.{IsTopCulprit}
use Rattle.alog_config.proofs.top.TopFields.culprit.Goals as goal

pub returns-in-BadValue : goal.returns-in-BadValue
returns-in-BadValue c = subst (λ r. IsTopCulprit c.args.self.now r c.bad_key.result) (sym c.in-BadValue.is) c.bad_key.ensures
