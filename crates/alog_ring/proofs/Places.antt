-- The steps on the places of a ring, at the words that the code names.
use Rattle.std.proofs.Common.{◌≡◌, ℕ, ◌+◌, ◌%◌, ◌<◌, eqb, List, [], ◌∷◌, refl, sym, ap, subst, ◌∙◌}
use mathlib.Core.Option.{some}
use prog.Atomic.{either}
use Rattle.atomic_table.specs.Table.{State, Me, step, carried_after, Allows}
use Rattle.alog_core.specs.Queue.{last}
use Rattle.alog_core.specs.History.{Entry}
use Rattle.alog_ring.specs.declared.words.TheConstants.{NEXT, FRONT}
use Rattle.alog_ring.specs.Kinds.{PlaceKind}
use Rattle.alog_ring.specs.Sight.{Stage, Idle, Fresh, Joined, SawNext, SawFree, Writing, SawFront, SawFull, Reading, SawUnwritten}
use Rattle.alog_ring.specs.Sight.{Sight}
use Rattle.alog_ring.specs.Plays.{saw_next, saw_free, claimed, wrote, saw_front, saw_full, saw_end, grabbed, took}
use Rattle.alog_ring.specs.Seats.{was_named, saw_both, saw_all}
use Rattle.alog_ring.specs.Rule.{seq_of, Ruled}
use Rattle.alog_ring.specs.Limit.{AreHeld, Keeps}
use Rattle.alog_ring.proofs.Limits.{allowed_in, weaker}
use Rattle.alog_ring.proofs.Meeting.{names_itself, sees_both, sees_all}
use Rattle.alog_ring.proofs.Steps.{sees_next, sees_free, claims, writes, sees_front, sees_full, sees_end, grabs, takes_out}

module _ {S T N : Type 0} (kind : PlaceKind S T N) (firsts : List S) (admits : S → Type 0) (n f slots id : ℕ)
    (me : Me S (Sight T N)) (in_hand : AreHeld admits me.1) where
  abbrev pub Holds : State S (Sight T N) → Type 0
  Holds s = Keeps kind firsts admits n f s

  -- a step of a ring whose places keep to no limit
  kept_in : (i : ℕ) (g : ℕ → ℕ) (P : ℕ → Me S (Sight T N) → Type 0)
      → Allows (λ s. Ruled kind.has (kind.spare firsts) n f s) slots id me i g P → Allows Holds slots id me i g P
  kept_in i g P may s r wide at fits =
      let go = allowed_in kind firsts admits n f slots id me i g P in_hand may s r wide at fits
      in (go.0, go.1, go.2, go.3, go.4.0)

  -- a step that may take what lies in a place, which is admitted, and so by a weaker limit
  taking_in : (more : S → Type 0) → ((y : S) → admits y → more y) → (i : ℕ) (g : ℕ → ℕ)
      (P : ℕ → Me S (Sight T N) → Type 0) → Allows (λ s. Ruled kind.has (kind.spare firsts) n f s) slots id me i g P
      → Allows Holds slots id me i g (λ y m. P y m × AreHeld more m.1)
  taking_in more is i g P may s r wide at fits =
      let go = allowed_in kind firsts admits n f slots id me i g P in_hand may s r wide at fits
      in (go.0, go.1, go.2, go.3, (go.4.0, weaker admits more is (carried_after me.1 go.1) go.4.1))

  -- a play may be told in weaker words
  told_as : (i : ℕ) (g : ℕ → ℕ) (P Q : ℕ → Me S (Sight T N) → Type 0) → ((y : ℕ) (m : Me S (Sight T N)) → P y m → Q y m)
      → Allows Holds slots id me i g P → Allows Holds slots id me i g Q
  told_as i g P Q weaker may s r wide at fits = let go = may s r wide at fits in (go.0, go.1, go.2, go.3, weaker _ _ go.4)

  at_word : (i t : ℕ) (g : ℕ → ℕ) (P : ℕ → Me S (Sight T N) → Type 0) → i ≡ seq_of n t
      → Allows Holds slots id me (seq_of n t) g P → Allows Holds slots id me i g P
  at_word i t g P is may = let A : ℕ → Type 0 = λ z. Allows Holds slots id me z g P in subst A (sym is) may

  pub see_next_may : me.0.stage ≡ Idle → Allows Holds slots id me NEXT (λ y. y) (λ y m. saw_next kind.blank me y m)
  see_next_may idle =
      kept_in NEXT (λ y. y) (λ y m. saw_next kind.blank me y m) (sees_next kind firsts n f slots id me idle)

  pub see_free_may : (i t : ℕ) → i ≡ seq_of n t → me.0.stage ≡ SawNext t
      → Allows Holds slots id me i (λ y. y) (λ y m. (u : ℕ) → me.0.stage ≡ SawNext u → saw_free kind.blank u me y m)
  see_free_may i t is stage =
      at_word i t (λ y. y) (λ y m. (u : ℕ) → me.0.stage ≡ SawNext u → saw_free kind.blank u me y m) is
      (told_as (seq_of n t) (λ y. y) (λ y m. saw_free kind.blank t me y m)
      (λ y m. (u : ℕ) → me.0.stage ≡ SawNext u → saw_free kind.blank u me y m)
      (λ y m told u at. let both : ◌≡◌ {A = Stage T N} (SawNext t) (SawNext u) = sym stage
      ∙ at in let same : t ≡ u = cc in let P : ℕ → Type 0 = λ z. saw_free kind.blank z me y m in subst P same told)
      (kept_in (seq_of n t) (λ y. y) (λ y m. saw_free kind.blank t me y m) (sees_free kind firsts n f slots id me t stage)))

  -- the claim, as what picks the first places and the limit knows them
  pub claim_may : {known : List S} (more : S → Type 0) → known ≡ firsts → ((y : S) → admits y → more y) → (t : ℕ) (said : S)
      → ((x : T) × kind.has said x) → me.0.stage ≡ SawFree t → t < last
      → Allows Holds slots id me NEXT (λ y. either (eqb y t) (t + 1) y)
      (λ y m. claimed kind.blank kind.has (kind.spare known) (step slots NEXT t (t + 1) (some said)) me y m × AreHeld more m.1)
  claim_may more same is t said there stage low =
      let A : List S → Type 0 = λ z.
      Allows Holds slots id me NEXT (λ y. either (eqb y t) (t + 1) y)
      (λ y m. claimed kind.blank kind.has (kind.spare z) (step slots NEXT t (t + 1) (some said)) me y m × AreHeld more m.1)
      in subst A (sym same)
      (taking_in more is NEXT (λ y. either (eqb y t) (t + 1) y)
      (λ y m. claimed kind.blank kind.has (kind.spare firsts) (step slots NEXT t (t + 1) (some said)) me y m)
      (claims kind firsts n f slots id me t (t + 1) there.0 said there.1 stage refl low))

  pub write_may : {i : ℕ} (t : ℕ) {new : ℕ} (x : T) {y : S} {more : List (ℕ × S)} → kind.has y x → i ≡ seq_of n t → new ≡ t + 1
      → me.0.stage ≡ Writing t x → me.1 ≡ (t % n, y) ∷ more
      → Allows Holds slots id me i (λ _. new)
      (λ _ m. (u : ℕ) (z : T) → me.0.stage ≡ Writing u z → wrote kind.blank u me m)
  write_may {i} t x {y} {more} lies is next stage has =
      let A : ℕ → Type 0 = λ k.
      Allows Holds slots id me i (λ _. k) (λ _ m. (u : ℕ) (z : T) → me.0.stage ≡ Writing u z → wrote kind.blank u me m)
      in subst A (sym next)
      (at_word i t (λ _. t + 1) (λ _ m. (u : ℕ) (z : T) → me.0.stage ≡ Writing u z → wrote kind.blank u me m) is
      (told_as (seq_of n t) (λ _. t + 1) (λ _ m. wrote kind.blank t me m)
      (λ _ m. (u : ℕ) (z : T) → me.0.stage ≡ Writing u z → wrote kind.blank u me m)
      (λ w m told u z at. let both : ◌≡◌ {A = Stage T N} (Writing t x) (Writing u z) = sym stage
      ∙ at in let same : t ≡ u = cc in let P : ℕ → Type 0 = λ k. wrote kind.blank k me m in subst P same told)
      (kept_in (seq_of n t) (λ _. t + 1) (λ _ m. wrote kind.blank t me m)
      (writes kind firsts n f slots id me t x y more lies stage has))))

  pub see_front_may : me.0.stage ≡ Idle → Allows Holds slots id me FRONT (λ y. y) (λ y m. saw_front me y m)
  see_front_may idle =
      kept_in FRONT (λ y. y) (λ y m. saw_front me y m) (sees_front kind firsts n f slots id me idle)

  pub see_full_may : (i t : ℕ) → i ≡ seq_of n t → me.0.stage ≡ SawFront t
      → Allows Holds slots id me i (λ y. y) (λ y m. (u : ℕ) → me.0.stage ≡ SawFront u → saw_full kind.blank u me y m)
  see_full_may i t is stage =
      at_word i t (λ y. y) (λ y m. (u : ℕ) → me.0.stage ≡ SawFront u → saw_full kind.blank u me y m) is
      (told_as (seq_of n t) (λ y. y) (λ y m. saw_full kind.blank t me y m)
      (λ y m. (u : ℕ) → me.0.stage ≡ SawFront u → saw_full kind.blank u me y m)
      (λ y m told u at. let both : ◌≡◌ {A = Stage T N} (SawFront t) (SawFront u) = sym stage
      ∙ at in let same : t ≡ u = cc in let P : ℕ → Type 0 = λ z. saw_full kind.blank z me y m in subst P same told)
      (kept_in (seq_of n t) (λ y. y) (λ y m. saw_full kind.blank t me y m) (sees_full kind firsts n f slots id me t stage)))

  pub see_end_may : (t : ℕ) → me.0.stage ≡ SawUnwritten t
      → Allows Holds slots id me NEXT (λ y. y)
      (λ y m. (u : ℕ) → me.0.stage ≡ SawUnwritten u → saw_end kind.blank u me y m)
  see_end_may t stage =
      told_as NEXT (λ y. y) (λ y m. saw_end kind.blank t me y m)
      (λ y m. (u : ℕ) → me.0.stage ≡ SawUnwritten u → saw_end kind.blank u me y m)
      (λ y m told u at. let both : ◌≡◌ {A = Stage T N} (SawUnwritten t) (SawUnwritten u) = sym stage
      ∙ at in let same : t ≡ u = cc in let P : ℕ → Type 0 = λ z. saw_end kind.blank z me y m in subst P same told)
      (kept_in NEXT (λ y. y) (λ y m. saw_end kind.blank t me y m) (sees_end kind firsts n f slots id me t stage))

  pub grab_may : (t new : ℕ) (said : S) (more : S → Type 0) → ((y : S) → admits y → more y)
      → me.0.stage ≡ SawFull t → new ≡ t + 1
      → Allows Holds slots id me FRONT (λ y. either (eqb y t) new y)
      (λ y m. grabbed kind.blank kind.has (step slots FRONT t new (some said)) me y m × AreHeld more m.1)
  grab_may t new said more is stage next =
      taking_in more is FRONT (λ y. either (eqb y t) new y)
      (λ y m. grabbed kind.blank kind.has (step slots FRONT t new (some said)) me y m)
      (grabs kind firsts n f slots id me t new (some said) stage next)

  -- what a take's play says of all that may have been brought
  abbrev pub TookAll : Me S (Sight T N) → Type 0
  TookAll m = (u : ℕ) (z : T) (j : ℕ) (b : S) (l : List (ℕ × S)) (a : N) → me.0.stage ≡ Reading u z → me.1 ≡ (j, b) ∷ l
      → kind.brings a b → took a u z me m

  pub take_may : {i : ℕ} (t : ℕ) {new : ℕ} (x : T) {y : S} (note : N) {more : List (ℕ × S)} → kind.brings note y → i ≡ seq_of n t
      → new ≡ t + n → me.0.stage ≡ Reading t x → me.1 ≡ (t % n, y) ∷ more
      → Allows Holds slots id me i (λ _. new) (λ _ m. TookAll m)
  take_may {i} t x {y} note {more} brings is next stage has =
      let A : ℕ → Type 0 = λ w. Allows Holds slots id me i (λ _. w) (λ _ m. TookAll m)
      in subst A (sym next)
      (at_word i t (λ _. t + n) (λ _ m. TookAll m) is
      (told_as (seq_of n t) (λ _. t + n) (λ _ m. took note t x me m) (λ _ m. TookAll m)
      (λ w m told u z j b l a at lies brought.
      let both : ◌≡◌ {A = Stage T N} (Reading t x) (Reading u z) = sym stage ∙ at
      in let e : t ≡ u = cc
      in let item : x ≡ z = cc
      in let rows : (t % n, y) ∷ more ≡ (j, b) ∷ l = sym has ∙ lies
      in let pair : ◌≡◌ {A = ℕ × S} (t % n, y) (j, b) = cc
      in let place : y ≡ b = ap (λ (w : ℕ × S). w.1) pair
      in let B : S → Type 0 = λ w. kind.brings a w
      in let notes : note ≡ a = kind.once note a y brings (subst B (sym place) brought)
      in let Q : ℕ → Type 0 = λ v. took note v x me m
      in let R : T → Type 0 = λ v. took note u v me m
      in let W : N → Type 0 = λ v. took v u z me m
      in subst W notes (subst R item (subst Q e told)))
      (kept_in (seq_of n t) (λ _. t + n) (λ _ m. took note t x me m)
      (takes_out kind firsts n f slots id me note t x y more brings stage has))))

  pub name_may : 0 < me.0.known.parts → me.0.stage ≡ Fresh → me.0.known.own ≡ [] → me.0.known.joined ≡ []
      → Allows Holds slots id me NEXT (λ y. y) (λ y m. was_named me m)
  name_may live fresh none alone =
      kept_in NEXT (λ y. y) (λ y m. was_named me m) (names_itself kind firsts n f slots id me live fresh none alone)

  pub see_both_may : (t : List (Entry T N)) → 0 < me.0.known.parts → me.0.stage ≡ Joined t
      → Allows Holds slots id me NEXT (λ y. y)
      (λ y m. (u : List (Entry T N)) → me.0.stage ≡ Joined u → saw_both u me m)
  see_both_may t live stage =
      told_as NEXT (λ y. y) (λ y m. saw_both t me m)
      (λ y m. (u : List (Entry T N)) → me.0.stage ≡ Joined u → saw_both u me m)
      (λ y m told u at. let both : ◌≡◌ {A = Stage T N} (Joined t) (Joined u) = sym stage
      ∙ at in let same : t ≡ u = cc in let P : List (Entry T N) → Type 0 = λ z. saw_both z me m in subst P same told)
      (kept_in NEXT (λ y. y) (λ y m. saw_both t me m) (sees_both kind firsts n f slots id me live t stage))

  pub see_all_may : 0 < me.0.known.parts → me.0.stage ≡ Idle
      → Allows Holds slots id me NEXT (λ y. y) (λ y m. saw_all me m)
  see_all_may live idle = kept_in NEXT (λ y. y) (λ y m. saw_all me m) (sees_all kind firsts n f slots id me live idle)
