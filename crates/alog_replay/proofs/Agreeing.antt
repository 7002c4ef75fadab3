-- What a script tells from two stages that agree; and so one thing alone on a scene that is certain.
use Rattle.std.proofs.Common.{◌≡◌, ℕ, suc, zero, ◌+◌, Bool, true, false, List, [], ◌∷◌, ◌++◌, refl, sym, ap, subst, ◌∙◌}
use Rattle.std.proofs.lemmas.Bool.{false≢true}
use Rattle.alog_replay.specs.Lines.{lines_of}
use Rattle.alog_replay.specs.Scene.{Scene, Played, Done, Refused, behind, WhereTrue, StepThen, Makes, Plays, IsCertain, done}
use Rattle.alog_replay.specs.Script.{Told, Whole, RefusedAt, told_behind, Tells, TellsLine, TellsPlayed, ScriptTells}
use Rattle.alog_replay.specs.declared.command.Act.{Act}
use Rattle.alog_replay.specs.declared.command.Command.{Command}
use Rattle.alog_replay.specs.declared.command.Command.TheVariants.{Acts, Step, Run}
use Rattle.alog_replay.specs.declared.entry.Entry.{Entry}
use Rattle.alog_replay.specs.declared.entry.Entry.TheVariants.{Skipped, Does}
use Rattle.alog_replay.specs.declared.entry.Entry.TheVariants as entry
use Rattle.alog_replay.specs.declared.limits.TheConstants.{STEPS_MAX}
use Rattle.alog_replay.proofs.EntryLemmas.{same_entry}

-- Stages that are so related show the same, and what comes of an act or a step on both is the same and so related.
pub record Agrees {S : Type 0} (scene : Scene S) (R : S → S → Type 0) : Type 0 where
  pub free : (s t : S) (actor : ℕ) → R s t → scene.is_free s actor ≡ scene.is_free t actor
  pub may : (s t : S) (act : Act) → R s t → scene.may_do s act ≡ scene.may_do t act
  pub does : (s t : S) (act : Act) (x y : List ℕ) (u v : S) → R s t → scene.Does s act x u → scene.Does t act y v → (x ≡ y) × R u v
  pub steps : (s t : S) (actor : ℕ) (x y : List ℕ) (u v : S) → R s t → scene.Steps s actor x u → scene.Steps t actor y v → (x ≡ y) × R u v
  pub files : (s t : S) → R s t → scene.files s ≡ scene.files t

module _ {S : Type 0} (scene : Scene S) (R : S → S → Type 0) (agrees : Agrees scene R) where
  -- what was played is the same, and led to related stages
  abbrev Same : Played S → Played S → Type 0
  Same (Done x s) (Done y t) = (x ≡ y) × R s t
  Same (Refused x) (Refused y) = x ≡ y
  Same _ _ = ⊥

  along : (x y : List ℕ) (p q : Played S) → x ≡ y → Same p q → Same (behind x p) (behind y q)
  along x y (Done m s) (Done n t) e h = (ap (λ z. z ++ m) e ∙ ap (λ z. y ++ z) h.0, h.1)
  along x y (Refused m) (Refused n) e h = ap (λ z. z ++ m) e ∙ ap (λ z. y ++ z) h
  along x y (Done m s) (Refused n) e h = absurd h
  along x y (Refused m) (Done n t) e h = absurd h

  both_are : (p q a b : Played S) → p ≡ a → q ≡ b → Same a b → Same p q
  both_are p q a b h g s = subst (λ (x : Played S). Same x q) (sym h) (subst (λ (y : Played S). Same a y) (sym g) s)

  -- from related stages steps end in the same way
  record EndsAlike (ended : S → Played S) : Type 0 where
    ends : (s t : S) → R s t → Same (ended s) (ended t)

  -- and so does what comes after the first of them
  record GoesAlike (ended : S → Played S) (Rest : S → Played S → Type 0) : Type 0 where
    ends : EndsAlike ended
    goes : (s t : S) (p q : Played S) → R s t → Rest s p → Rest t q → Same p q

  step_or : {ended : S → Played S} {Rest : S → Played S → Type 0} → GoesAlike ended Rest → (a : ℕ) {s t : S} → R s t → {b c : Bool} → b ≡ c
      → (p q : Played S) → WhereTrue b (p ≡ ended s) (StepThen scene a s Rest p) → WhereTrue c (q ≡ ended t) (StepThen scene a t Rest q)
      → Same p q
  step_or {ended} alike a {s} {t} r {b = true} {c = true} e p q h g = both_are p q (ended s) (ended t) h g (alike.ends.ends s t r)
  step_or alike a r {b = true} {c = false} e p q h g = absurd (false≢true (sym e))
  step_or alike a r {b = false} {c = true} e p q h g = absurd (false≢true e)
  step_or alike a {s} {t} r {b = false} {c = false} e p q h g =
      let step = agrees.steps s t a h.0 g.0 h.1 g.1 r h.3 g.3 in
      both_are p q (behind h.0 h.2) (behind g.0 g.2) h.5 g.5 (along h.0 g.0 h.2 g.2 step.0 (alike.goes h.1 g.1 h.2 g.2 step.1 h.4 g.4))

  made : {ended : S → Played S} → EndsAlike ended → (k a : ℕ) {s t : S} (p q : Played S) → R s t → Makes scene ended k a s p
      → Makes scene ended k a t q → Same p q
  unfolding Makes
  made ends zero a {s} {t} p q r h g = both_are p q (Done [] s) (Done [] t) h g (refl, r)
  made {ended} ends (suc k) a {s} {t} p q r h g =
      let alike : GoesAlike ended (λ u x. Makes scene ended k a u x) =
      record { ends = ends; goes = λ u v x y m. made ends k a {s = u} {t = v} x y m } in
      step_or alike a {s = s} {t = t} r (agrees.free s t a r) p q h g

  abbrev ActDone : S → Act → Played S → Type 0
  ActDone s act p = (text : List ℕ) × (next : S) × scene.Does s act text next × (p ≡ Done text next)

  acted : {s t : S} (act : Act) (p q : Played S) → R s t → {b c : Bool} → b ≡ c → WhereTrue b (ActDone s act p) (p ≡ Refused [])
      → WhereTrue c (ActDone t act q) (q ≡ Refused []) → Same p q
  acted {s} {t} act p q r {b = true} {c = true} e h g =
      both_are p q (Done h.0 h.1) (Done g.0 g.1) h.3 g.3 (agrees.does s t act h.0 g.0 h.1 g.1 r h.2 g.2)
  acted act p q r {b = true} {c = false} e h g = absurd (false≢true (sym e))
  acted act p q r {b = false} {c = true} e h g = absurd (false≢true e)
  acted act p q r {b = false} {c = false} e h g = both_are p q (Refused []) (Refused []) h g refl

  ran : {s t : S} (a : ℕ) (p q : Played S) → R s t → {b c : Bool} → b ≡ c
      → WhereTrue b (p ≡ Refused []) (Makes scene done STEPS_MAX a s p)
      → WhereTrue c (q ≡ Refused []) (Makes scene done STEPS_MAX a t q) → Same p q
  ran a p q r {b = true} {c = true} e h g = both_are p q (Refused []) (Refused []) h g refl
  ran a p q r {b = true} {c = false} e h g = absurd (false≢true (sym e))
  ran a p q r {b = false} {c = true} e h g = absurd (false≢true e)
  ran {s} {t} a p q r {b = false} {c = false} e h g = made (record { ends = λ u v k. (refl, k) }) STEPS_MAX a {s = s} {t = t} p q r h g

  played : (s t : S) (command : Command) (p q : Played S) → R s t → Plays scene s command p → Plays scene t command q → Same p q
  played s t (Acts act) p q r h g = acted act p q r (agrees.may s t act r) h g
  played s t (Step a count) p q r h g = made (record { ends = λ u v k. refl }) count a {s = s} {t = t} p q r h g
  played s t (Run a) p q r h g = ran a p q r (agrees.free s t a r) h g

  -- one thing is told of the rest from related stages
  record TellsAlike (Rest : S → Told → Type 0) : Type 0 where
    same : (s t : S) (x y : Told) → R s t → Rest s x → Rest t y → x ≡ y

  rest_told : {Rest : S → Told → Type 0} → TellsAlike Rest → (n : ℕ) (p q : Played S) {x y : Told} → Same p q → TellsPlayed n p Rest x
      → TellsPlayed n q Rest y → x ≡ y
  rest_told rest n (Done a s) (Done b t) same h g =
      h.2 ∙ (ap (λ z. told_behind z h.0) same.0 ∙ (ap (told_behind b) (rest.same s t h.0 g.0 same.1 h.1 g.1) ∙ sym g.2))
  rest_told rest n (Refused a) (Refused b) same h g = h ∙ (ap (RefusedAt (n + 1)) same ∙ sym g)
  rest_told rest n (Done a s) (Refused b) same h g = absurd same
  rest_told rest n (Refused a) (Done b t) same h g = absurd same

  line_told : {Rest : S → Told → Type 0} → TellsAlike Rest → (n : ℕ) (e : Entry) {s t : S} {x y : Told} → R s t
      → TellsLine scene s n e Rest x → TellsLine scene t n e Rest y → x ≡ y
  line_told rest n Skipped {s} {t} {x} {y} r h g = rest.same s t x y r h g
  line_told rest n (Does command) {s} {t} {x} {y} r h g =
      rest_told rest n h.0 g.0 {x = x} {y = y} (played s t command h.0 g.0 r h.1 g.1) h.2 g.2
  line_told rest n entry.Refused r h g = h ∙ sym g

  lines_told : (lines : List (List ℕ)) {s t : S} (n : ℕ) {x y : Told} → R s t → Tells scene s n lines x → Tells scene t n lines y → x ≡ y
  unfolding Tells
  lines_told [] {s} {t} n r h g = h ∙ (ap (λ text. Whole text n) (agrees.files s t r) ∙ sym g)
  lines_told (line ∷ lines) {s} {t} n {x} {y} r h g =
      let Rest : S → Told → Type 0 = λ next v. Tells scene next (n + 1) lines v in
      let rest : TellsAlike Rest = record { same = λ u v a b k. lines_told lines (n + 1) {x = a} {y = b} k } in
      let same : g.0 ≡ h.0 = same_entry line g.0 h.0 g.1 h.1 in
      line_told rest n h.0 {s = s} {t = t} {x = x} {y = y} r h.2 (subst (λ (e : Entry). TellsLine scene t n e Rest y) same g.2)

  pub agree_on : (script : List ℕ) (s t : S) (x y : Told) → R s t → ScriptTells scene s script x → ScriptTells scene t script y → x ≡ y
  agree_on script s t x y r h g = lines_told (lines_of script) 0 {x = x} {y = y} r h g

-- a script tells one thing alone on a scene of which each relation does
pub one_script : {S : Type 0} (scene : Scene S) → IsCertain scene → (s : S) (script : List ℕ) (t u : Told) → ScriptTells scene s script t
    → ScriptTells scene s script u → t ≡ u
one_script {S} scene certain s script t u h g =
    let R : S → S → Type 0 = λ x y. x ≡ y in
    let agrees : Agrees scene R = record {
      free = λ x y a e. ap (λ (z : S). scene.is_free z a) e;
      may = λ x y act e. ap (λ (z : S). scene.may_do z act) e;
      does = λ x y act m n v w e d f. certain.does y act m n v w (subst (λ (z : S). scene.Does z act m v) e d) f;
      steps = λ x y a m n v w e d f. certain.steps y a m n v w (subst (λ (z : S). scene.Steps z a m v) e d) f;
      files = λ x y e. ap scene.files e;
    } in
    agree_on scene R agrees script s s t u refl h g
