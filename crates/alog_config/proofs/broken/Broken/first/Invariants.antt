use Rattle.std.proofs.Common.{IsTrue, Option, drop}
use Rattle.alog_config.specs.Rules.{IsFirst, has, order}
use Rattle.alog_config.specs.declared.fault.Rule.{Rule}
use Rattle.alog_config.proofs.broken.Broken.first.Given as goal

abbrev pub invariant-loop-rule : goal.invariant-loop-rule
invariant-loop-rule l =
    (found : Option Rule) → IsFirst (drop l.rule-index l.rule-items) (λ rule. IsTrue (has l.self rule)) found
    → IsFirst order (λ rule. IsTrue (has l.self rule)) found
