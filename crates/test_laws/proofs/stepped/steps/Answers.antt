use Rattle.std.proofs.Common.{◌≡◌, ◌⊎◌, inl, inr, ℕ, zero, suc, ◌<◌, ◌≤◌, true, Result, Ok, Err, sym, ◌∙◌, arith}
use Rattle.std.specs.Prelude.{◌↔◌, IfOk, IsErrOf, is_ok}
use Rattle.alog_core.specs.declared.TheConstants.{ACTORS}
use Rattle.alog_core.specs.declared.error.StepError.{StepError}
use Rattle.alog_core.specs.declared.error.StepError.TheVariants.{NoActor}
use Rattle.alog_system.specs.Step.{SystemSteps}
use Rattle.alog_system.specs.declared.stepped.Stepped.{Stepped}
use Rattle.test_laws.proofs.stepped.steps.Goals as goal

less_or : (a b : ℕ) → (a < b) ⊎ (b ≤ a)
less_or a zero = inr (omega arith)
less_or zero (suc b) = inl (omega arith)
less_or (suc a) (suc b) = elim (less_or a b) [ inl lt ↦ inl (omega (arith, lt)) | inr le ↦ inr (omega (arith, le)) ]

step_made : (r : Result Stepped StepError) (P : Stepped → Type 0) (a : ℕ) → IsErrOf r NoActor ↔ (ACTORS ≤ a) → IfOk r P → is_ok r ≡ true
    → (t : Stepped) × (a < ACTORS) × P t
step_made (Ok t) P a none h ok =
    (t, elim (less_or a ACTORS) [ inl lt ↦ lt | inr le ↦ absurd (let wrong = none.1 le in cc) ], h)
step_made (Err e) P a none h ok = absurd (cc)

pub returns : goal.returns
returns g c ok =
    step_made c.step.result (λ t. SystemSteps g.S.Store.tells g.S.Store.files g.S.Store.failures c.args.system.now c.args.actor t c.step.new.self)
    c.args.actor c.step.ensures.no_actor c.step.ensures.steps (sym c.is_ok.ensures.value ∙ ok)
