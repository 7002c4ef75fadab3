use Rattle.alog_config.specs.Values.{IsPatternText}
use Rattle.alog_config.proofs.Spelling.{spelled_not}
use Rattle.alog_config.proofs.values.pattern_at.Goals as goal

pub returns-else-branch : goal.returns-else-branch
returns-else-branch c = spelled_not (IsPatternText c.args.limit) _ c.in-Given.text c.in-Given.ensures (λ a p.
    let yes = c.in_ok-is_pattern-in-Given.ensures.1 p.1 in let no = c.if-branch.false in absurd (cc))
