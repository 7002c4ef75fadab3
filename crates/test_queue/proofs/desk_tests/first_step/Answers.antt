-- The run so far, as its calls tell it.
use Rattle.std.proofs.Common.{◌≡◌, ◌<◌, ℕ, Bool, true, false, List, [], ◌∷◌, ◌++◌, refl, sym, subst, arith}
use lib.Count.{ones}
use Rattle.alog_core.specs.World.{round_of, is_idle}
use Rattle.alog_core.specs.declared.TheConstants.{ACTORS}
use Rattle.alog_policy.specs.Desk.{DeskView, fresh_desk}
use Rattle.alog_policy.specs.Runs.{CallMade, called, ToPost, StepMade, step_of, Plays, starts, posts, steps_on}
use Rattle.alog_policy.specs.declared.policy.Policy.TheVariants.{Block}
use Rattle.test_queue.proofs.desk_tests.first_step.Goals as goal

not_true : (b : Bool) → (b ≡ true → ⊥) → b ≡ false
not_true true h = absurd (h refl)
not_true false h = refl

pub returns : goal.returns
unfolding ones
returns c =
    let d = c.in_ok-desk.desk in
    let e = c.begin_post.new.self in
    let began = c.in-Ok.ensures in
    let stepped = c.in-Ok-step.ensures in
    let new : DeskView ℕ = fresh_desk 2 5 in
    let lt : 1 < ACTORS = omega arith in
    let calls : List (CallMade ℕ) = [] ++ called 1 (ToPost Block c.args.value) ∷ [] in
    let first : Plays new [] [] d = subst (λ (k : DeskView ℕ). Plays new [] [] k) (sym c.in_ok-desk.ensures.made) starts in
    let second : Plays new calls [] e =
    subst (λ (k : DeskView ℕ). Plays new calls [] k) (sym began.began)
    (posts 1 Block c.args.value first lt (began.begins.0 refl).1) in
    let busy : is_idle (round_of e.world 1) ≡ false =
    not_true (is_idle (round_of e.world 1)) (λ idle. let bad = stepped.not_in_call.1 (lt, idle) in cc) in
    let steps : List (StepMade ℕ) = [] ++ step_of e 1 ∷ [] in
    let third : Plays new calls steps c.step.new.self =
    subst (λ (k : DeskView ℕ). Plays new calls steps k) (sym stepped.stepped) (steps_on 1 second lt busy) in
    (steps, c.runs_are_cut.ensures 2 5 calls steps c.step.new.self refl (omega arith) third)
