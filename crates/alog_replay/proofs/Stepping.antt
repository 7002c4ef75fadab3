-- Several steps of an actor, one after another.
use Rattle.std.proofs.Common.{◌≡◌, ℕ, suc, zero, ◌+◌, ◌-◌, ◌<◌, ◌≤◌, Bool, true, false, List, [], ◌++◌, append_assoc, refl, sym}
use Rattle.std.proofs.Common.{ap, subst, ◌∙◌, arith}
use Rattle.std.proofs.lemmas.List.{append-nil}
use Rattle.alog_replay.specs.declared.limits.TheConstants.{STEPS_MAX}
use Rattle.alog_replay.specs.Scene.{Scene, Played, Done, Refused, behind, WhereTrue, StepThen, Makes, Runs, Prints, IsDone}
use Rattle.alog_replay.specs.Scene.{IsRefused, done}

pub behind-behind : {S : Type 0} (x y : List ℕ) (p : Played S) → behind x (behind y p) ≡ behind (x ++ y) p
behind-behind x y (Done z s) = ap (λ t. Done t s) (sym (append_assoc x y z))
behind-behind x y (Refused z) = ap Refused (sym (append_assoc x y z))

pub where_true : (b : Bool) (P Q : Type 0) → b ≡ true → P → WhereTrue b P Q
where_true b P Q e p = subst (λ t. WhereTrue t P Q) (sym e) p

pub where_false : (b : Bool) (P Q : Type 0) → b ≡ false → Q → WhereTrue b P Q
where_false b P Q e q = subst (λ t. WhereTrue t P Q) (sym e) q

pub true_or_not : (b : Bool) → (b ≡ true → ⊥) → b ≡ false
true_or_not true h = absurd (h refl)
true_or_not false h = refl

module _ {S : Type 0} (scene : Scene S) (ended : S → Played S) where
  -- one step of those to come is made
  pub one_made : (k actor : ℕ) (s : S) (p : Played S) → 0 < k → scene.is_free s actor ≡ false
      → StepThen scene actor s (λ t q. Makes scene ended (k - 1) actor t q) p → Makes scene ended k actor s p
  unfolding Makes
  one_made zero actor s p some called h = absurd (omega arith)
  one_made (suc k) actor s p some called h =
      let less : suc k - 1 ≡ k = omega arith in
      let rest = subst (λ j. Makes scene ended j actor h.1 h.2) less h.4 in
      where_false (scene.is_free s actor) _ _ called (h.0, h.1, h.2, h.3, rest, h.5)

  -- the call has ended before
  pub ended_before : (k actor : ℕ) (s : S) → 0 < k → scene.is_free s actor ≡ true → Makes scene ended k actor s (ended s)
  unfolding Makes
  ended_before zero actor s some free = absurd (omega arith)
  ended_before (suc k) actor s some free = where_true (scene.is_free s actor) _ _ free refl

  pub none_to_make : (k actor : ℕ) (s : S) → k ≡ 0 → Makes scene ended k actor s (Done [] s)
  unfolding Makes
  none_to_make zero actor s e = refl
  none_to_make (suc k) actor s e = absurd (omega (arith, e))

-- Some of the steps are made: what comes of the rest comes of the whole, behind what was printed.
pub record HasMade {S : Type 0} (Whole Rest : Played S → Type 0) (before now : List ℕ) : Type 0 where
  pub text : List ℕ
  pub printed : now ≡ before ++ text
  pub goes_on : (q : Played S) → Rest q → Whole (behind text q)

behind_nothing : {S : Type 0} (p : Played S) → behind [] p ≡ p
behind_nothing (Done t s) = refl
behind_nothing (Refused t) = refl

pub made_nothing : {S : Type 0} (Whole : Played S → Type 0) (before : List ℕ) → HasMade Whole Whole before before
made_nothing Whole before = record { text = []; printed = sym (append-nil before); goes_on = λ q h. subst Whole (sym (behind_nothing q)) h }

pub made_more : {S : Type 0} {Whole Rest : Played S → Type 0} {before now then : List ℕ} (Next : Played S → Type 0) (more : List ℕ)
    → HasMade Whole Rest before now → ((q : Played S) → Next q → Rest (behind more q)) → then ≡ now ++ more → HasMade Whole Next before then
made_more {S} {Whole} {Rest} {before} Next more m step p =
    record {
      text = m.text ++ more;
      printed = p ∙ (ap (λ xs. xs ++ more) m.printed ∙ append_assoc before m.text more);
      goes_on = λ q h. subst Whole (behind-behind m.text more q) (m.goes_on (behind more q) (step q h));
    }

pub made_all : {S : Type 0} {Whole Rest : Played S → Type 0} {before now : List ℕ} (s : S) → HasMade Whole Rest before now
    → Rest (Done [] s) → IsDone Whole before now s
made_all {S} {Whole} s m h = (m.text, subst (λ t. Whole (Done t s)) (append-nil m.text) (m.goes_on (Done [] s) h), m.printed)

pub made_till_refused : {S : Type 0} {Whole Rest : Played S → Type 0} {before now then : List ℕ} → HasMade Whole Rest before now
    → Rest (Refused []) → then ≡ now
    → IsRefused Whole before then
made_till_refused {S} {Whole} m h p = (m.text, subst (λ t. Whole (Refused t)) (append-nil m.text) (m.goes_on (Refused []) h), p ∙ m.printed)

-- An actor in a call made a step, which was printed.
pub record StepMade {S : Type 0} (scene : Scene S) (actor : ℕ) (s next : S) (now then : List ℕ) : Type 0 where
  pub called : scene.is_free s actor ≡ false
  pub step : Prints now then (λ text. scene.Steps s actor text next)

module _ {S : Type 0} (scene : Scene S) (ended : S → Played S) where
  -- one turn of a loop makes one of the steps that are left
  pub next_made : {Whole : Played S → Type 0} {before now then : List ℕ} (n i : ℕ) {actor : ℕ} {s next : S} → i < n
      → StepMade scene actor s next now then → HasMade Whole (Makes scene ended (n - i) actor s) before now
      → HasMade Whole (Makes scene ended (n - (i + 1)) actor next) before then
  next_made n i {actor} {s} {next} some one m =
      let step = one.step in
      let less : n - (i + 1) ≡ n - i - 1 = omega arith in
      made_more (Makes scene ended (n - (i + 1)) actor next) step.0 m
      (λ q h. one_made scene ended (n - i) actor s (behind step.0 q) (omega (arith, some)) one.called
      (step.0, next, q, step.1, subst (λ j. Makes scene ended j actor next q) less h, refl)) step.2

  -- the loop has made all
  pub all_made : {Whole : Played S → Type 0} {before now : List ℕ} (n i actor : ℕ) (s : S) → n ≤ i
      → HasMade Whole (Makes scene ended (n - i) actor s) before now → IsDone Whole before now s
  all_made n i actor s none m = made_all s m (none_to_make scene ended (n - i) actor s (omega (arith, none)))

-- an actor in a call ran
pub ran : {S : Type 0} (scene : Scene S) (actor : ℕ) (start s : S) (before now : List ℕ) → scene.is_free start actor ≡ false
    → IsDone (Makes scene done STEPS_MAX actor start) before now s → IsDone (Runs scene actor start) before now s
ran scene actor start s before now called d = (d.0, where_false (scene.is_free start actor) _ _ called d.1, d.2)
