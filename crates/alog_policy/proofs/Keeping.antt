-- What is true of a post under way stays true.
use Rattle.std.proofs.Common.{◌≡◌, ℕ, ◌+◌, ◌<◌, ◌≤◌, cond, Ok, Err, refl, sym, subst, arith}
use Rattle.std.specs.Prelude.{IfOk}
use Rattle.alog_core.proofs.SharedCells.{on_test}
use Rattle.alog_policy.specs.Progress.{IsKept, begun, lost, pushing, with_take, counting, again_under, again}
use Rattle.alog_policy.specs.Progress.{full_under, after_full, after_take}
use Rattle.alog_policy.specs.declared.TheConstants.{ROUNDS_MAX}
use Rattle.alog_policy.specs.declared.policy.Policy.{Policy}
use Rattle.alog_policy.specs.declared.policy.Policy.TheVariants.{Block, OverrunOldest, DiscardNew}
use Rattle.alog_policy.specs.declared.policy.Why.TheVariants as why
use Rattle.alog_policy.specs.declared.progress.Side.TheVariants.{Pop}
use Rattle.alog_policy.specs.declared.progress.Progress.{Progress}

pub kept_pushing : (g : Progress) (k : ℕ) → k < ROUNDS_MAX → g.overran ≤ k → IsKept (pushing g k)
kept_pushing g k within few = record { within = within; few = few; pops = λ bad. absurd (cc) }

kept_counting : (g : Progress) → g.rounds < ROUNDS_MAX → g.overran ≤ g.rounds + 1 → IfOk (counting g) IsKept
kept_counting g within few =
    on_test (λ b. IfOk (cond b (Err (lost g why.Busy)) (Ok (pushing g (g.rounds + 1)))) IsKept) (g.rounds + 1) ROUNDS_MAX
    (λ _. tt) (λ other. kept_pushing g (g.rounds + 1) (omega (arith, within, other)) few)

kept_again_under : (p : Policy) (g : Progress) → IsKept g → IfOk (again_under p g) IsKept
kept_again_under Block g kept = kept_pushing g g.rounds kept.within kept.few
kept_again_under OverrunOldest g kept = kept_counting g kept.within (omega (arith, kept.few))
kept_again_under DiscardNew g kept = kept_counting g kept.within (omega (arith, kept.few))

pub kept_again : (g : Progress) → IsKept g → IfOk (again g) IsKept
kept_again g kept = kept_again_under g.policy g kept

kept_full_under : (p : Policy) (g : Progress) → g.policy ≡ p → IsKept g → IfOk (full_under p g) IsKept
kept_full_under Block g is kept = kept_again g kept
kept_full_under OverrunOldest g is kept = record { within = kept.within; few = kept.few; pops = λ _. is }
kept_full_under DiscardNew g is kept = tt

pub kept_full : (g : Progress) → IsKept g → IfOk (after_full g) IsKept
kept_full g kept = kept_full_under g.policy g refl kept

pub kept_take : (g : Progress) → IsKept g → g.side ≡ Pop → IfOk (after_take g) IsKept
kept_take g kept pops =
    subst (λ p. IfOk (again_under p (with_take g)) IsKept) (sym (kept.pops pops))
    (kept_counting (with_take g) kept.within (omega (arith, kept.few)))

pub kept_begun : (p : Policy) → IsKept (begun p)
kept_begun p = record { within = omega arith; few = omega arith; pops = λ bad. absurd (cc) }
