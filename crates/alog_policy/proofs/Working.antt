-- A post that never waits comes to an end: there is less and less work left.
use Rattle.std.proofs.Common.{◌≡◌, ◌≢◌, ◌+◌, ◌-◌, ◌*◌, ◌<◌, cond, Result, Ok, Err, refl, ap, arith}
use Rattle.std.specs.Prelude.{IfOk}
use Rattle.alog_core.proofs.SharedCells.{on_test}
use Rattle.alog_policy.specs.Progress.{lost, pushing, counting, again_under, again, full_under, after_full, after_take}
use Rattle.alog_policy.specs.Progress.{half, work, with_take}
use Rattle.alog_policy.specs.declared.TheConstants.{ROUNDS_MAX}
use Rattle.alog_policy.specs.declared.policy.Policy.{Policy}
use Rattle.alog_policy.specs.declared.policy.Policy.TheVariants.{Block, OverrunOldest, DiscardNew}
use Rattle.alog_policy.specs.declared.policy.Why.TheVariants as why
use Rattle.alog_policy.specs.declared.progress.Side.TheVariants.{Push}
use Rattle.alog_policy.specs.declared.progress.Progress.{Progress}
use Rattle.alog_policy.specs.declared.progress.Lost.{Lost}

-- a round that counts leaves less than two calls for each round before it
less_counting : (g : Progress) → g.rounds < ROUNDS_MAX
    → IfOk (counting g) (λ h. work h < 2 * (ROUNDS_MAX - g.rounds))
less_counting g within =
    on_test
    (λ b. IfOk (cond b (Err (lost g why.Busy)) (Ok (pushing g (g.rounds + 1)))) (λ h. work h < 2 * (ROUNDS_MAX - g.rounds)))
    (g.rounds + 1) ROUNDS_MAX (λ _. tt) (λ other. omega (arith, within, other))

less_again_under : (p : Policy) (g : Progress) → p ≢ Block → g.rounds < ROUNDS_MAX
    → IfOk (again_under p g) (λ h. work h < 2 * (ROUNDS_MAX - g.rounds))
less_again_under Block g not within = absurd (not refl)
less_again_under OverrunOldest g not within = less_counting g within
less_again_under DiscardNew g not within = less_counting g within

less_here : (g : Progress) (r : Result Progress Lost) → IfOk r (λ h. work h < 2 * (ROUNDS_MAX - g.rounds))
    → IfOk r (λ h. work h < work g)
less_here g (Ok h) less = omega (arith, less)
less_here g (Err l) less = tt

pub less_again : (g : Progress) → g.policy ≢ Block → g.rounds < ROUNDS_MAX → IfOk (again g) (λ h. work h < work g)
less_again g not within = less_here g (again g) (less_again_under g.policy g not within)

less_full_under : (p : Policy) (g : Progress) → p ≢ Block → g.side ≡ Push → g.rounds < ROUNDS_MAX
    → IfOk (full_under p g) (λ h. work h < work g)
less_full_under Block g not side within = absurd (not refl)
less_full_under OverrunOldest g not side within = let one : half g.side ≡ 1 = ap half side in omega (arith, one)
less_full_under DiscardNew g not side within = tt

pub less_full : (g : Progress) → g.policy ≢ Block → g.side ≡ Push → g.rounds < ROUNDS_MAX
    → IfOk (after_full g) (λ h. work h < work g)
less_full g not side within = less_full_under g.policy g not side within

pub less_take : (g : Progress) → g.policy ≢ Block → g.rounds < ROUNDS_MAX → IfOk (after_take g) (λ h. work h < work g)
less_take g not within = less_here g (after_take g) (less_again_under g.policy (with_take g) not within)
