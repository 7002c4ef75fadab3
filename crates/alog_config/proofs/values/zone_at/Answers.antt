use Rattle.alog_format.specs.Civil.{IsRuleOf}
use Rattle.alog_format.proofs.SharedOffsets.{is_rule}
use Rattle.alog_config.proofs.Spelling.{none_is_none, spelled_not}
use Rattle.alog_config.proofs.values.zone_at.Goals as goal

pub returns-in-None : goal.returns-in-None
returns-in-None c = spelled_not IsRuleOf _ c.in-Given.text c.in-Given.ensures (λ zone rule.
    none_is_none c.rule.result c.in-None.is (c.rule.ensures.some.1 (is_rule c.in-Given.text.now zone rule)))
