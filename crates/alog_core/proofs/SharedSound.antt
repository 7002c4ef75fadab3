-- The empty queue has the facts of every reached state, and each allowed event keeps them.
use Rattle.std.proofs.Common.{◌≡◌, ◌≢◌, ℕ, ◌+◌, ◌-◌, ◌<◌, ◌≤◌, ◌↔◌, None, Some, List, [], ◌∷◌, ◌++◌, length, inl, inr, refl, sym}
use Rattle.std.proofs.Common.{ap, subst, ◌∙◌, arith}
use Rattle.std.proofs.lemmas.Bool.Decides.{eqb_tells, leb_tells}
use Rattle.alog_core.specs.Queue.{Cell, Queue, Event, Claim, Write, Grab, Take, Full, Front, Empty, Idle, PushBusy, PopBusy}
use Rattle.alog_core.specs.Queue.{Spent, start}
use Rattle.alog_core.specs.Queue.{cell_of, marked, without, IsListed, HasCell, IsRoom, Rises, IsSound, Allows, after}
use Rattle.alog_core.specs.declared.mark.Mark.TheVariants.{Claimed, Written, Emptying}
use Rattle.alog_core.proofs.SharedCells.{remarked, cell_of-append_listed, cell_of-append_other, cell_of-append_same}
use Rattle.alog_core.proofs.SharedCells.{cell_of-marked_same, cell_of-marked_other, cell_of-without_other}
use Rattle.alog_core.proofs.SharedRising.{length-rising, listed_within, unlisted_above, rises_above_unlisted, rises-append}
use Rattle.alog_core.proofs.SharedRising.{rises-marked, rises-without, cell_of-without_same}

pub sound_start : {T : Type 0} (n f : ℕ) → IsSound n (start {T = T} f)
sound_start n f = record {
  ordered = omega arith;
  rising = omega arith;
  listed = λ t above below. absurd (omega arith);
  emptied = λ t c found. cc;
}

-- at most n cells
pub length-sound : {T : Type 0} (n : ℕ) (q : Queue T) → IsSound n q → length q.cells ≤ n
length-sound n q s =
    let tail : length q.cells + (q.next - n) ≤ q.next = length-rising (q.next - n) q.cells q.next s.rising in omega arith

-- no ticket from the next on is listed
pub next_is_unlisted : {T : Type 0} (n : ℕ) (q : Queue T) (t : ℕ) → IsSound n q → q.next ≤ t → cell_of t q.cells ≡ None
next_is_unlisted n q t s w = unlisted_above t (q.next - n) q.cells q.next s.rising w

-- with room for a ticket the cells are the last n tickets of the next one too
room_rises : {T : Type 0} (n next : ℕ) (cs : List (Cell T)) → 1 ≤ n → IsRoom n next cs → Rises (next - n) cs next
    → Rises (next + 1 - n) cs next
room_rises {T} n next cs some room r =
    let P : ℕ → Type 0 = λ low. Rises low cs next
    in elim (leb_tells n next) [
      | inl h ↦
          let none : cell_of (next - n) cs ≡ None = room (next - n) (omega (arith, h.1))
          in let e : next - n + 1 ≡ next + 1 - n = omega (arith, h.1)
          in subst P e (rises_above_unlisted (next - n) cs next (omega (arith, h.1)) none r)
      | inr h ↦ let e : next - n ≡ next + 1 - n = omega (arith, h.1) in subst P e r
    ]

pub sound_claim : {T : Type 0} {n : ℕ} {q : Queue T} (a : ℕ) {t : ℕ} (x : T) → 1 ≤ n → IsSound n q → t ≡ q.next
    → IsRoom n t q.cells → IsSound n (after q a (Claim t x))
sound_claim {T} {n} {q} a {t} x some s is room =
    let c : Cell T = record { ticket = t; mark = Claimed; item = x; actor = a }
    in let none : cell_of t q.cells ≡ None = next_is_unlisted n q t s (omega arith)
    in let R : ℕ → Type 0 = λ v. IsRoom n v q.cells
    in let H : ℕ → Type 0 = λ v. Rises (q.next + 1 - n) (q.cells ++ c ∷ []) (v + 1)
    in record {
      ordered = omega (arith, s.ordered);
      rising = subst H is
          (rises-append (q.next + 1 - n) q.cells q.next c (room_rises n q.next q.cells some (subst R is room) s.rising)
          (omega arith));
      listed =
          λ u above below.
          elim (eqb_tells t u) [
            | inl h ↦ (c, cell_of-append_same u q.cells c h.1 (next_is_unlisted n q u s (omega (arith, h.1))))
            | inr h ↦
                let old : IsListed u q.cells = s.listed u above (omega (arith, h.1))
                in (old.0, cell_of-append_listed u q.cells (c ∷ []) old.0 old.1)
          ];
      emptied =
          λ u d found.
          elim (eqb_tells t u) [
            | inl h ↦
                let new : cell_of u (q.cells ++ c ∷ []) ≡ Some c =
                cell_of-append_same u q.cells c h.1 (next_is_unlisted n q u s (omega (arith, h.1)))
                in let same : c ≡ d = cc
                in let mark : Claimed ≡ d.mark = ap (λ (k : Cell T). k.mark) same
                in (λ (e : d.mark ≡ Emptying). cc, λ (w : u < q.front). absurd (omega (arith, h.1, s.ordered)))
            | inr h ↦ s.emptied u d (sym (cell_of-append_other u q.cells c h.1) ∙ found)
          ];
    }

pub sound_write : {T : Type 0} (n : ℕ) (q : Queue T) (a t : ℕ) (x : T) (b : ℕ) → IsSound n q
    → HasCell q.cells t Claimed x b → IsSound n (after q a (Write t))
sound_write {T} n q a t x b s has =
    let c : Cell T = record { ticket = t; mark = Claimed; item = x; actor = b }
    in record {
      ordered = s.ordered;
      rising = rises-marked t Written a (q.next - n) q.cells q.next s.rising;
      listed =
          λ u above below.
          let old : IsListed u q.cells = s.listed u above below
          in elim (eqb_tells t u) [
            | inl h ↦ let P : ℕ → Type 0 = λ v. IsListed v (marked t Written a q.cells) in
                subst P h.1 (remarked c Written a, cell_of-marked_same t Written a q.cells c has)
            | inr h ↦ (old.0, cell_of-marked_other u t Written a q.cells h.1 ∙ old.1)
          ];
      emptied =
          λ u d found.
          elim (eqb_tells t u) [
            | inl h ↦
                let new : cell_of t (marked t Written a q.cells) ≡ Some (remarked c Written a) =
                cell_of-marked_same t Written a q.cells c has
                in let e : t ≡ u = h.1
                in let same : remarked c Written a ≡ d = cc
                in let mark : Written ≡ d.mark = ap (λ (k : Cell T). k.mark) same
                in (
                  λ (wrong : d.mark ≡ Emptying). cc,
                  λ (w : u < q.front). let wrong : Claimed ≡ Emptying =
                      (s.emptied t c has).1 (omega arith) in cc,
                )
            | inr h ↦ s.emptied u d (sym (cell_of-marked_other u t Written a q.cells h.1) ∙ found)
          ];
    }

pub sound_grab : {T : Type 0} {n : ℕ} {q : Queue T} (a : ℕ) {t : ℕ} {x : T} {b : ℕ} → IsSound n q → t ≡ q.front
    → HasCell q.cells t Written x b → IsSound n (after q a (Grab t))
sound_grab {T} {n} {q} a {t} {x} {b} s is has =
    let c : Cell T = record { ticket = t; mark = Written; item = x; actor = b }
    in let in_bounds : (q.next - n ≤ t) × (t < q.next) = listed_within t (q.next - n) q.cells q.next c s.rising has
    in record {
      ordered = omega (arith, in_bounds.1);
      rising = rises-marked t Emptying a (q.next - n) q.cells q.next s.rising;
      listed =
          λ u above below.
          let old : IsListed u q.cells = s.listed u (omega arith) below
          in let apart : t ≢ u = omega arith
          in (old.0, cell_of-marked_other u t Emptying a q.cells apart ∙ old.1);
      emptied =
          λ u d found.
          elim (eqb_tells t u) [
            | inl h ↦
                let new : cell_of t (marked t Emptying a q.cells) ≡ Some (remarked c Emptying a) =
                cell_of-marked_same t Emptying a q.cells c has
                in let e : t ≡ u = h.1
                in let same : remarked c Emptying a ≡ d = cc
                in let mark : Emptying ≡ d.mark = ap (λ (k : Cell T). k.mark) same
                in (λ (_ : d.mark ≡ Emptying). omega arith, λ (_ : u < q.front + 1). sym mark)
            | inr h ↦
                let old : (d.mark ≡ Emptying) ↔ (u < q.front) =
                s.emptied u d (sym (cell_of-marked_other u t Emptying a q.cells h.1) ∙ found)
                in (λ (m : d.mark ≡ Emptying). omega (arith, old.0 m), λ (w : u < q.front + 1). old.1 (omega (arith, h.1)))
          ];
    }

pub sound_take : {T : Type 0} (n : ℕ) (q : Queue T) (a t : ℕ) (x : T) (b : ℕ) → IsSound n q
    → HasCell q.cells t Emptying x b → IsSound n (after q a (Take t x))
sound_take {T} n q a t x b s has =
    let c : Cell T = record { ticket = t; mark = Emptying; item = x; actor = b }
    in let behind : t < q.front = (s.emptied t c has).0 refl
    in record {
      ordered = s.ordered;
      rising = rises-without t (q.next - n) q.cells q.next s.rising;
      listed =
          λ u above below.
          let old : IsListed u q.cells = s.listed u above below
          in let apart : t ≢ u = omega arith
          in (old.0, cell_of-without_other u t q.cells apart ∙ old.1);
      emptied =
          λ u d found.
          elim (eqb_tells t u) [
            | inl h ↦
                let none : cell_of t (without t q.cells) ≡ None =
                cell_of-without_same t (q.next - n) q.cells q.next s.rising
                in let e : t ≡ u = h.1
                in cc
            | inr h ↦ s.emptied u d (sym (cell_of-without_other u t q.cells h.1) ∙ found)
          ];
    }

-- each allowed event keeps the facts of reached states
pub sound_after : {T : Type 0} (n : ℕ) (q : Queue T) (a : ℕ) (e : Event T) → 1 ≤ n → IsSound n q → Allows n q a e
    → IsSound n (after q a e)
sound_after n q a (Claim t x) some s may = sound_claim a x some s may.0 may.2
sound_after n q a (Write t) some s may = sound_write n q a t may.0 a s may.1
sound_after n q a (Grab t) some s may = sound_grab a s may.0 may.1.2
sound_after n q a (Take t x) some s may = sound_take n q a t x a s may
sound_after n q a (Full t) some s may = s
sound_after n q a (Front t) some s may = s
sound_after n q a (Empty t) some s may = s
sound_after n q a (Idle t) some s may = s
sound_after n q a (PushBusy t) some s may = s
sound_after n q a (PopBusy t) some s may = s
sound_after n q a Spent some s may = s
