-- On the scene of a script without a configuration one thing alone comes of each act and, where its store never fails, of
-- each step.
use Rattle.std.proofs.Common.{◌≡◌, List, [], ◌++◌, ℕ, true, false, Bool, Some, None, Option, Result, Ok, Err, sym, ap, ◌∙◌, refl}
use Rattle.std.specs.Prelude.{OnOk}
use Rattle.std.proofs.lemmas.List.{append-nil}
use Rattle.alog_replay.specs.Memory.{MemoryFile, Turns}
use Rattle.alog_replay.specs.Scene.{IsCertain, Prints}
use Rattle.alog_replay.specs.Session.{Stage, StepsBy, Steps, duty_of, memory_turn_text, with_duty, with_memory}
use Rattle.alog_replay.specs.Plain.{plain, StepsIn}
use Rattle.alog_replay.specs.declared.duty.Duty.{Duty}
use Rattle.alog_replay.specs.declared.duty.Duty.TheVariants.{Free, Works, Owes}

one_turn : (old : MemoryFile) (text : List ℕ) (p q : Bool) (t u : MemoryFile) → Turns false old text p t → Turns false old text q u
    → (p ≡ q) × (t ≡ u)
one_turn old text true true t u h g = (refl, h.1 ∙ sym g.1)
one_turn old text false q t u h g = absurd (let e = h.0 in cc)
one_turn old text true false t u h g = absurd (let e = g.0 in cc)

one_step : (s : Stage) (a : ℕ) (d : Duty) {x y : List ℕ} {t u : Stage} → StepsBy false s a d x t → StepsBy false s a d y u
    → (x ≡ y) × (t ≡ u)
one_step s a Free h g = (h.0 ∙ sym g.0, h.1 ∙ sym g.1)
one_step s a Works h g = (h.0 ∙ sym g.0, h.1 ∙ sym g.1)
one_step s a (Owes n m) h g =
    let same = one_turn s.memory m.text h.0 g.0 h.1 g.1 h.2 g.2 in
    (h.3 ∙ (ap (memory_turn_text a n) same.0 ∙ sym g.3), h.4 ∙ (ap (λ f. with_duty (with_memory s f) a Free) same.1 ∙ sym g.4))

one_step_in : (s : Option Stage) (a : ℕ) (x y : List ℕ) (t u : Option Stage) → StepsIn false s a x t → StepsIn false s a y u
    → (x ≡ y) × (t ≡ u)
one_step_in None a x y t u h g = (h.0 ∙ sym g.0, h.1 ∙ sym g.1)
one_step_in (Some s) a x y t u h g =
    let same = one_step s a (duty_of s a) {x = x} {y = y} {t = h.0} {u = g.0} h.1 g.1 in
    (same.0, h.2 ∙ (ap Some same.1 ∙ sym g.2))

pub plain_is_certain : IsCertain (plain false)
plain_is_certain = record {
  does = λ s act x y t u h g. (h.0 ∙ sym g.0, h.1 ∙ sym g.1);
  steps = one_step_in;
}

-- an act that prints nothing
pub silently : {T E : Type 0} (r : Result T E) (text : List ℕ) (s t : Stage) → OnOk r (s ≡ t)
    → OnOk r ((x : List ℕ) × ((x ≡ []) × (Some s ≡ Some t)) × (text ≡ text ++ x))
silently (Ok y) text s t h = ([], (refl, ap Some h), sym (append-nil text))
silently (Err e) text s t h = tt

-- a step of an open queue is one of the scene
pub step_in : {T E : Type 0} (r : Result T E) (may_fail : Bool) (s t : Stage) (a : ℕ) (before after : List ℕ)
    → OnOk r (Prints before after (λ text. Steps may_fail s a text t))
    → OnOk r (Prints before after (λ text. StepsIn may_fail (Some s) a text (Some t)))
step_in (Ok y) may_fail s t a before after h = (h.0, (t, h.1, refl), h.2)
step_in (Err e) may_fail s t a before after h = tt
