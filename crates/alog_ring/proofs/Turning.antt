-- What a claim, a write, a grab and a take change of the queue: the look-up of one ticket, and the positions.
use Rattle.std.proofs.Common.{◌≡◌, ◌≢◌, ℕ, ◌+◌, ◌-◌, ◌<◌, ◌≤◌, ◌⊎◌, List, ◌++◌, set, Some, None, refl, sym, ap, subst, ◌∙◌, inl}
use Rattle.std.proofs.Common.{inr, arith}
use mathlib.Core.Option.{some}
use lib.ListN.{get_elem?}
use Rattle.atomic_table.proofs.Lists.{at_set, set_else, set_here}
use Rattle.alog_core.specs.declared.mark.Mark.TheVariants.{Claimed, Written, Emptying}
use Rattle.alog_core.specs.Queue.{Cell, Queue, Claim, Write, Grab, Take, cell_of, HasCell, IsRoom, IsWritten, IsSound, after}
use Rattle.alog_core.specs.History.{Entry}
use Rattle.alog_core.proofs.SharedCells.{cell_of-append_other, cell_of-marked_other, cell_of-without_other}
use Rattle.alog_core.proofs.SharedRising.{listed_within}
use Rattle.alog_core.proofs.SharedSound.{next_is_unlisted}
use Rattle.alog_ring.specs.Known.{Known}
use Rattle.alog_ring.specs.Sight.{Stage, Idle, Fresh, SawNext, SawFree, Writing, SawFront, SawFull, Reading, SawUnwritten, Joined}
use Rattle.alog_ring.specs.Sight.{Lent, Gone, Sight}
use Rattle.alog_ring.specs.Rule.{Knows, Staged}
use Rattle.alog_core.proofs.SharedLaps.{same_or_not}
use Rattle.alog_ring.proofs.SharedLists.{not_both, inside, one_value, prefix_longer}

-- a cell's ticket lies in the last n
pub within : {T : Type 0} (n : ℕ) (q : Queue T) (t : ℕ) (c : Cell T) → IsSound n q → cell_of t q.cells ≡ Some c
    → (q.next - n ≤ t) × (t < q.next)
within n q t c sound has = listed_within t (q.next - n) q.cells q.next c sound.rising has

-- Only the look-up of t changes, by the actor a.
pub record Turn {T : Type 0} (n a t : ℕ) (q r : Queue T) : Type 0 where
  pub others : (u : ℕ) → t ≢ u → cell_of u r.cells ≡ cell_of u q.cells
  pub next : (r.next ≡ q.next) ⊎ ((r.next ≡ q.next + 1) × (t ≡ q.next))
  pub front : q.front ≤ r.front
  pub near : r.next ≤ t + n
  pub room : (p : ℕ) → p ≤ q.next → IsRoom n p q.cells → IsRoom n p r.cells
  pub written : (p : ℕ) → r.front ≤ p → IsWritten p q.cells → t ≢ p
  pub writers : (p : ℕ) (x : T) (j : ℕ) → j ≢ a → HasCell q.cells p Claimed x j → t ≢ p
  pub readers : (p : ℕ) (x : T) (j : ℕ) → j ≢ a → HasCell q.cells p Emptying x j → t ≢ p

module _ {T : Type 0} (n a : ℕ) (q : Queue T) (sound : IsSound n q) where
  pub turn_claim : (x : T) → 1 ≤ n → Turn n a q.next q (after q a (Claim q.next x))
  turn_claim x some_places =
      let t : ℕ = q.next
      in let c : Cell T = record { ticket = t; mark = Claimed; item = x; actor = a }
      in record {
        others = λ u apart. cell_of-append_other u q.cells c apart;
        next = inr (refl, refl);
        front = omega arith;
        near = omega arith;
        room = λ p low free u e. let apart : t ≢ u = omega arith in cell_of-append_other u q.cells c apart ∙ free u e;
        written = λ p high is. let w : (q.next - n ≤ p) × (p < q.next) =
            within n q p (record { ticket = p; mark = Written; item = is.0; actor = is.1 }) sound is.2 in
            omega (arith, w.1);
        writers = λ p y j _ has. let w : (q.next - n ≤ p) × (p < q.next) =
            within n q p (record { ticket = p; mark = Claimed; item = y; actor = j }) sound has in
            omega (arith, w.1);
        readers = λ p y j _ has. let w : (q.next - n ≤ p) × (p < q.next) =
            within n q p (record { ticket = p; mark = Emptying; item = y; actor = j }) sound has in
            omega (arith, w.1);
      }

  -- a cell marked anew
  module _ (t : ℕ) (c : Cell T) (is : cell_of t q.cells ≡ Some c) where
    room_of_listed : (r : Queue T) → ((u : ℕ) → t ≢ u → cell_of u r.cells ≡ cell_of u q.cells) → (p : ℕ)
        → IsRoom n p q.cells → IsRoom n p r.cells
    room_of_listed r others p free u e =
        elim (same_or_not t u) [
          | inl same ↦ let P : ℕ → Type 0 = λ v. cell_of v q.cells ≡ Some c in let here : cell_of u q.cells ≡ Some c =
              subst P same is in let none : cell_of u q.cells ≡ None = free u e in cc
          | inr apart ↦ others u apart ∙ free u e
        ]

    same_cell : (p : ℕ) (d : Cell T) → cell_of p q.cells ≡ Some d → t ≡ p → d ≡ c
    same_cell p d has e = let P : ℕ → Type 0 = λ v. cell_of v q.cells ≡ Some d in let here : cell_of t q.cells ≡ Some d =
        subst P (sym e) has in cc

  pub turn_write : (t : ℕ) (x : T) → HasCell q.cells t Claimed x a → Turn n a t q (after q a (Write t))
  turn_write t x has =
      let c : Cell T = record { ticket = t; mark = Claimed; item = x; actor = a }
      in let w : (q.next - n ≤ t) × (t < q.next) = within n q t c sound has
      in record {
        others = λ u apart. cell_of-marked_other u t Written a q.cells apart;
        next = inl refl;
        front = omega arith;
        near = omega (arith, w.0);
        room = λ p low free.
            room_of_listed t c has (after q a (Write t))
            (λ u apart. cell_of-marked_other u t Written a q.cells apart) p free;
        written = λ p high is e. let m : Written ≡ Claimed =
            ap (λ (k : Cell T). k.mark)
            (same_cell t c has p (record { ticket = p; mark = Written; item = is.0; actor = is.1 }) is.2 e) in cc;
        writers = λ p y j other has_j e.
            other (ap (λ (k : Cell T). k.actor)
            (same_cell t c has p (record { ticket = p; mark = Claimed; item = y; actor = j }) has_j e));
        readers = λ p y j other has_j e. let m : Emptying ≡ Claimed =
            ap (λ (k : Cell T). k.mark)
            (same_cell t c has p (record { ticket = p; mark = Emptying; item = y; actor = j }) has_j e) in cc;
      }

  pub turn_grab : (x : T) (b : ℕ) → HasCell q.cells q.front Written x b → Turn n a q.front q (after q a (Grab q.front))
  turn_grab x b has =
      let t : ℕ = q.front
      in let c : Cell T = record { ticket = t; mark = Written; item = x; actor = b }
      in let w : (q.next - n ≤ t) × (t < q.next) = within n q t c sound has
      in record {
        others = λ u apart. cell_of-marked_other u t Emptying a q.cells apart;
        next = inl refl;
        front = omega arith;
        near = omega (arith, w.0);
        room = λ p low free.
            room_of_listed t c has (after q a (Grab t))
            (λ u apart. cell_of-marked_other u t Emptying a q.cells apart) p free;
        written = λ p high is. omega arith;
        writers = λ p y j other has_j e. let m : Claimed ≡ Written =
            ap (λ (k : Cell T). k.mark)
            (same_cell t c has p (record { ticket = p; mark = Claimed; item = y; actor = j }) has_j e) in cc;
        readers = λ p y j other has_j e. let m : Emptying ≡ Written =
            ap (λ (k : Cell T). k.mark)
            (same_cell t c has p (record { ticket = p; mark = Emptying; item = y; actor = j }) has_j e) in cc;
      }

  pub turn_take : (t : ℕ) (x : T) → HasCell q.cells t Emptying x a → Turn n a t q (after q a (Take t x))
  turn_take t x has =
      let c : Cell T = record { ticket = t; mark = Emptying; item = x; actor = a }
      in let w : (q.next - n ≤ t) × (t < q.next) = within n q t c sound has
      in record {
        others = λ u apart. cell_of-without_other u t q.cells apart;
        next = inl refl;
        front = omega arith;
        near = omega (arith, w.0);
        room = λ p low free.
            room_of_listed t c has (after q a (Take t x)) (λ u apart. cell_of-without_other u t q.cells apart) p free;
        written = λ p high is e. let m : Written ≡ Emptying =
            ap (λ (k : Cell T). k.mark)
            (same_cell t c has p (record { ticket = p; mark = Written; item = is.0; actor = is.1 }) is.2 e) in cc;
        writers = λ p y j other has_j e. let m : Claimed ≡ Emptying =
            ap (λ (k : Cell T). k.mark)
            (same_cell t c has p (record { ticket = p; mark = Claimed; item = y; actor = j }) has_j e) in cc;
        readers = λ p y j other has_j e.
            other (ap (λ (k : Cell T). k.actor)
            (same_cell t c has p (record { ticket = p; mark = Emptying; item = y; actor = j }) has_j e));
      }

  -- a step that changes nothing turns a ticket that is not listed
  pub turn_none : Turn n a q.next q q
  turn_none = record {
    others = λ u apart. refl;
    next = inl refl;
    front = omega arith;
    near = omega arith;
    room = λ p low free. free;
    written = λ p high is. let w : (q.next - n ≤ p) × (p < q.next) =
        within n q p (record { ticket = p; mark = Written; item = is.0; actor = is.1 }) sound is.2 in
        omega (arith, w.1);
    writers = λ p y j _ has. let w : (q.next - n ≤ p) × (p < q.next) =
        within n q p (record { ticket = p; mark = Claimed; item = y; actor = j }) sound has in
        omega (arith, w.1);
    readers = λ p y j _ has. let w : (q.next - n ≤ p) × (p < q.next) =
        within n q p (record { ticket = p; mark = Emptying; item = y; actor = j }) sound has in
        omega (arith, w.1);
  }

-- what another seat knows stays so
module _ {T N : Type 0} (n a t : ℕ) (q r : Queue T) (turn : Turn n a t q r) (h more : List (Entry T N)) where
  knows_on : (j : ℕ) (k : Known T N) (s : Stage T N) → j ≢ a → Knows n h q j k s → Knows n (h ++ more) r j k s
  knows_on j k Idle other is = is
  knows_on j k Fresh other is = tt
  knows_on j k (SawNext p) other is =
      (is.0, elim turn.next [ inl e ↦ omega (arith, is.1) | inr e ↦ omega (arith, is.1, e.0) ])
  knows_on j k (SawFree p) other is =
      (is.0, elim turn.next [ inl e ↦ omega (arith, is.1) | inr e ↦ omega (arith, is.1, e.0) ], turn.room p is.1 is.2)
  knows_on j k (Writing p x) other is = (is.0, turn.others p (turn.writers p x j other is.1) ∙ is.1)
  knows_on j k (SawFront p) other is = (is.0, omega (arith, is.1, turn.front))
  knows_on j k (SawFull p) other is = (
    is.0,
    omega (arith, is.1, turn.front),
    λ high.
        let old : IsWritten p q.cells = is.2 (omega (arith, turn.front))
        in (old.0, old.1, turn.others p (turn.written p high old) ∙ old.2),
  )
  knows_on j k (Reading p x) other is = (is.0, turn.others p (turn.readers p x j other is.1) ∙ is.1)
  knows_on j k (SawUnwritten p) other is = (is.0, omega (arith, is.1, turn.front), is.2)
  knows_on j k (Joined s) other is = (is.0, prefix_longer s h more is.1)
  knows_on j k Lent other is = tt
  knows_on j k Gone other is = tt

  -- The seat that steps was at work on no other cell, and is at work on this one if anyone is.
  pub record WorksAlone (v w : Sight T N) : Type 0 where
    pub left_write : (p : ℕ) (x : T) → v.stage ≡ Writing p x → t ≡ p
    pub left_read : (p : ℕ) (x : T) → v.stage ≡ Reading p x → t ≡ p
    pub now_write : (x : T) (b : ℕ) → HasCell r.cells t Claimed x b → (b ≡ a) × (w.stage ≡ Writing t x)
    pub now_read : (x : T) (b : ℕ) → HasCell r.cells t Emptying x b → (b ≡ a) × (w.stage ≡ Reading t x)

  -- the stages after a turn
  pub staged_turn : (views : List (Sight T N)) (v w : Sight T N) → get_elem? views a ≡ some v → Staged n h q views
      → Knows n (h ++ more) r a w.known w.stage → WorksAlone v w → Staged n (h ++ more) r (set views a w)
  staged_turn views v w at staged mine works =
      let here : get_elem? (set views a w) a ≡ some w = set_here views a w (inside views a v at)
      in record {
        knows =
            λ b u e.
            elim (at_set views a b w u e) [
              | inl same ↦
                  let K : ℕ → Type 0 = λ c. Knows n (h ++ more) r c u.known u.stage
                  in let L : Sight T N → Type 0 = λ x. Knows n (h ++ more) r a x.known x.stage
                  in subst K (sym same.0) (subst L same.1 mine)
              | inr other ↦ knows_on b u.known u.stage other.0 (staged.knows b u other.1)
            ];
        writers =
            λ p x b has.
            elim (same_or_not t p) [
              | inl same ↦
                  let H : ℕ → Type 0 = λ z. HasCell r.cells z Claimed x b
                  in let S : ℕ → Type 0 = λ z. w.stage ≡ Writing z x
                  in let now : (b ≡ a) × (w.stage ≡ Writing t x) = works.now_write x b (subst H (sym same) has)
                  in let G : ℕ → Type 0 = λ c. get_elem? (set views a w) c ≡ some w
                  in (w, subst G (sym now.0) here, subst S same now.1)
              | inr apart ↦
                  let old : (u : Sight T N) × (get_elem? views b ≡ some u) × (u.stage ≡ Writing p x) =
                  staged.writers p x b (sym (turn.others p apart) ∙ has)
                  in let not_me : b ≢ a = λ e. let G : ℕ → Type 0 = λ c. get_elem? views c ≡ some old.0 in
                  let is : old.0 ≡ v = one_value views a old.0 v (subst G e old.1) at in
                  apart (works.left_write p x (sym (ap (λ (z : Sight T N). z.stage) is) ∙ old.2))
                  in (old.0, set_else views a b w not_me ∙ old.1, old.2)
            ];
        readers =
            λ p x b has.
            elim (same_or_not t p) [
              | inl same ↦
                  let H : ℕ → Type 0 = λ z. HasCell r.cells z Emptying x b
                  in let S : ℕ → Type 0 = λ z. w.stage ≡ Reading z x
                  in let now : (b ≡ a) × (w.stage ≡ Reading t x) = works.now_read x b (subst H (sym same) has)
                  in let G : ℕ → Type 0 = λ c. get_elem? (set views a w) c ≡ some w
                  in (w, subst G (sym now.0) here, subst S same now.1)
              | inr apart ↦
                  let old : (u : Sight T N) × (get_elem? views b ≡ some u) × (u.stage ≡ Reading p x) =
                  staged.readers p x b (sym (turn.others p apart) ∙ has)
                  in let not_me : b ≢ a = λ e. let G : ℕ → Type 0 = λ c. get_elem? views c ≡ some old.0 in
                  let is : old.0 ≡ v = one_value views a old.0 v (subst G e old.1) at in
                  apart (works.left_read p x (sym (ap (λ (z : Sight T N). z.stage) is) ∙ old.2))
                  in (old.0, set_else views a b w not_me ∙ old.1, old.2)
            ];
      }

-- the stages after a step that changes nothing, of a seat that was at work on no cell
module _ {T N : Type 0} where
  abbrev pub IsFree : Stage T N → Type 0
  IsFree s = ((p : ℕ) (x : T) → s ≢ Writing p x) × ((p : ℕ) (x : T) → s ≢ Reading p x)

  pub staged_on : {n : ℕ} (a : ℕ) {q : Queue T} {h : List (Entry T N)} (more : List (Entry T N)) {views : List (Sight T N)}
      {v : Sight T N} (w : Sight T N)
      → IsSound n q → get_elem? views a ≡ some v → Staged n h q views → Knows n (h ++ more) q a w.known w.stage
      → IsFree v.stage → Staged n (h ++ more) q (set views a w)
  staged_on {n} a {q} {h} more {views} {v} w sound at staged mine free =
      let none : cell_of q.next q.cells ≡ None = next_is_unlisted n q q.next sound (omega arith)
      in staged_turn n a q.next q q (turn_none n a q sound) h more views v w at staged mine
      (record {
        left_write = λ p x e. absurd (free.0 p x e);
        left_read = λ p x e. absurd (free.1 p x e);
        now_write =
            λ x b has.
            not_both none has;
        now_read = λ x b has. not_both none has;
      })
