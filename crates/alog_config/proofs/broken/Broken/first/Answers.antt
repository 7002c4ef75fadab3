use Rattle.std.proofs.Common.{IsTrue, None, sym, ◌∙◌, arith}
use Rattle.alog_config.specs.Rules.{has, order}
use Rattle.alog_config.specs.declared.fault.Rule.TheVariants.{UnknownKey}
use Rattle.alog_config.proofs.Firsts.{first_at, first_past, first_none}
use Rattle.alog_config.proofs.broken.Broken.first.Goals as goal

pub returns-then-has : goal.returns-then-has
returns-then-has c =
    c.loop-rule.invariant _ (first_at order c.loop-rule.rule-index UnknownKey (λ rule. IsTrue (has c.args.self rule)) c.loop-rule-test.true
    (sym c.has.ensures ∙ c.if-has.true))

pub loop-rule-preserved : goal.loop-rule-preserved
loop-rule-preserved c = λ found h.
    c.loop-rule.invariant found (first_past order c.loop-rule.rule-index UnknownKey (λ rule. IsTrue
    (has c.args.self rule)) found c.loop-rule-test.true
    (λ yes. let e = sym yes ∙ (sym c.has.ensures ∙ c.if-has.false) in absurd (cc)) h)

pub returns : goal.returns
returns c = c.loop-rule.invariant None (first_none order c.loop-rule.rule-index (λ rule. IsTrue (has c.args.self rule)) (omega arith))
