-- What a step reads in the sequence of a ticket's place, and what it does by it.
use Rattle.std.proofs.Common.{◌≡◌, ◌≢◌, ℕ, ◌+◌, ◌%◌, ◌<◌, ◌≤◌, ◌⊎◌, ◌==◌, ◌&&◌, ◌||◌, not, ltb, cond, Bool, true, false, suc}
use Rattle.std.proofs.Common.{Option, None, Some, List, get_or, inl, inr, refl, sym, ap, subst, ◌∙◌, arith}
use Rattle.std.specs.Option.{is_none}
use Rattle.std.proofs.lemmas.Bool.Decides.{leb_tells}
use native.Mathlib.Nat.{add-mod_right}
use Rattle.alog_core.specs.Queue.{Cell, Queue, Full, Front, PushBusy, PopBusy, cell_of, IsListed, IsBlocked, IsRoom, IsSound}
use Rattle.alog_core.specs.Round.{Move, move_of, goes_on, makes, ends, is_blocked, is_claimed}
use Rattle.alog_core.specs.Words.{sequence_by, AreSequences}
use Rattle.alog_core.specs.declared.mark.Mark.{Mark}
use Rattle.alog_core.specs.declared.mark.Mark.TheVariants.{Claimed, Written, Emptying}
use Rattle.alog_core.specs.declared.round.Round.TheVariants as round
use Rattle.alog_core.proofs.SharedCells.{on_test}
use Rattle.alog_core.proofs.SharedLaps.{one_lap, lap}
use Rattle.alog_core.proofs.Steps.{Absent, IsClaimed, IsThere, IsEmptying, found, blocked_from_test, room_from_test}

eq_yes : (a b : ℕ) → a ≡ b → (a == b) ≡ true
eq_yes a b e = on_test (λ v. v ≡ true) a b (λ _. refl) (λ other. absurd (other e))

eq_no : (a b : ℕ) → a ≢ b → (a == b) ≡ false
eq_no a b other = on_test (λ v. v ≡ false) a b (λ e. absurd (other e)) (λ _. refl)

by_mark : (t : ℕ) (m : Mark) → (sequence_by t m ≡ t) ⊎ (sequence_by t m ≡ t + 1)
by_mark t Claimed = inl refl
by_mark t Written = inr refl
by_mark t Emptying = inr refl

none_listed : {T : Type 0} (t : ℕ) (o : Option (Cell T)) (c : Cell T) → o ≡ None → o ≡ Some c → ⊥
none_listed t o c none some = let bad : None ≡ Some c = sym none ∙ some in cc

-- the test that a push makes of what blocks, by its two cases
blocked_or_room : {T : Type 0} (n p : ℕ) (cs : List (Cell T))
    → ((is_blocked n p cs ≡ true) × IsBlocked n p cs) ⊎ ((is_blocked n p cs ≡ false) × IsRoom n p cs)
blocked_or_room {T} n p cs =
    let by : (b : Bool) → is_blocked n p cs ≡ b
    → ((is_blocked n p cs ≡ true) × IsBlocked n p cs) ⊎ ((is_blocked n p cs ≡ false) × IsRoom n p cs) =
    λ b. elim b as (λ v. is_blocked n p cs ≡ v
    → ((is_blocked n p cs ≡ true) × IsBlocked n p cs) ⊎ ((is_blocked n p cs ≡ false) × IsRoom n p cs)) [
      | true ↦ λ e. inl (e, blocked_from_test n p cs e)
      | false ↦ λ e. inr (e, room_from_test n p cs e)
    ]
    in by (is_blocked n p cs) refl

module _ {T : Type 0} (n : ℕ) (q : Queue T) (s : List ℕ) (two : 2 ≤ n) (sound : IsSound n q) (seqs : AreSequences n q s) where
  -- the sequence of a ticket's place
  abbrev pub at : ℕ → ℕ
  at p = get_or s (p % n) 0

  listed_at : (t : ℕ) (c : Cell T) → cell_of t q.cells ≡ Some c → (at t ≡ t) ⊎ (at t ≡ t + 1)
  listed_at t c is =
      let e : at t ≡ sequence_by t c.mark = seqs.places.cells t c is
      in elim (by_mark t c.mark) [ inl h ↦ inl (e ∙ h) | inr h ↦ inr (e ∙ h) ]

  same_place : (u p : ℕ) → u % n ≡ p % n → at p ≡ at u
  same_place u p e = ap (λ (i : ℕ). get_or s i 0) (sym e)

  blocked_at : (p : ℕ) → IsBlocked n p q.cells → at p < p
  blocked_at p by =
      let place : by.0 % n ≡ p % n = sym (add-mod_right by.0 n) ∙ ap (λ (z : ℕ). z % n) by.1
      in let same = same_place by.0 p place
      in elim (listed_at by.0 by.2.0 by.2.1) [
        | inl e ↦ omega (arith, same, e, by.1)
        | inr e ↦ omega (arith, same, e, by.1)
      ]

  -- the place has gone on from a ticket that is no longer listed
  passed : (p : ℕ) → p < q.next → cell_of p q.cells ≡ None → p + n ≤ at p
  passed p low none =
      let on : (t : ℕ) × (q.next ≤ t) × (t < q.next + n) × (t % n ≡ p % n) × (p + n ≤ t) =
      lap q.next p q.next n (omega arith) low (omega arith)
      in let t : ℕ = on.0
      in let same : at p ≡ at t = same_place t p on.3
      in elim (blocked_or_room n t q.cells) [
        | inr room ↦ let e : at t ≡ t = seqs.places.free t on.1 on.2 room.1 in omega (arith, same, e, on.4)
        | inl block ↦
            let by : IsBlocked n t q.cells = block.1
            in let u : ℕ = by.0
            in let place : u % n ≡ p % n = sym (add-mod_right u n) ∙ ap (λ (z : ℕ). z % n) by.1 ∙ on.3
            in let P : ℕ → Type 0 = λ z. cell_of z q.cells ≡ Some by.2.0
            in let apart : u ≢ p = λ e. none_listed p (cell_of p q.cells) by.2.0 none (subst P e by.2.1)
            in let far : p + n ≤ u =
            elim (leb_tells (p + n) u) [
              | inl le ↦ le.1
              | inr lt ↦ absurd (apart (sym (one_lap p u n (omega (arith, by.1, on.4)) lt.1 (sym place))))
            ]
            in let here : at p ≡ at u = same_place u p place
            in elim (listed_at u by.2.0 by.2.1) [ inl e ↦ omega (arith, here, e, far) | inr e ↦ omega (arith, here, e, far) ]
      ]

  -- a push at its second step
  abbrev pub PushLooks : ℕ → T → Type 0
  PushLooks p x =
      ((at p < p) × (move_of n q (round.PushRead p x) ≡ ends (Full p)))
      ⊎ (((at p ≡ p) × (move_of n q (round.PushRead p x) ≡ goes_on (round.PushFree p x)))
      ⊎ ((p < at p) × (move_of n q (round.PushRead p x) ≡ ends (PushBusy p))))

  -- a step by its tests
  abbrev push_move : ℕ → T → Bool → Bool → Option (Cell T) → Move T
  push_move p x blocked early o =
      cond blocked (ends (Full p)) (cond (early && not (is_claimed o)) (ends (PushBusy p)) (goes_on (round.PushFree p x)))

  pub push_looks : (p : ℕ) (x : T) → p ≤ q.next → PushLooks p x
  push_looks p x low =
      let M : Bool → Bool → Option (Cell T) → Move T = push_move p x
      in let o : Option (Cell T) = cell_of p q.cells
      in elim (blocked_or_room n p q.cells) [
        | inl block ↦ inl (blocked_at p block.1, ap (λ b. M b (ltb p q.next) o) block.0)
        | inr room ↦
            elim (leb_tells (suc p) q.next) [
              | inr late ↦
                  let e : at p ≡ p = seqs.places.free p (omega (arith, late.1)) (omega (arith, low)) room.1
                  in inr (inl (e, ap (λ b. M b (ltb p q.next) o) room.0 ∙ ap (λ b. M false b o) late.0))
              | inl early ↦
                  let tests : M (is_blocked n p q.cells) (ltb p q.next) o ≡ M false true o =
                  ap (λ b. M b (ltb p q.next) o) room.0 ∙ ap (λ b. M false b o) early.0
                  in elim (found q.cells p) [
                    | Absent none ↦
                        inr (inr (omega (arith, passed p (omega (arith, early.1)) none), tests ∙ ap (λ z. M false true z) none))
                    | IsClaimed y a c ↦
                        inr (inl (seqs.places.cells p _ c, tests ∙ ap (λ z. M false true z) c))
                    | IsThere y a c ↦
                        let e : at p ≡ p + 1 = seqs.places.cells p _ c
                        in inr (inr (omega (arith, e), tests ∙ ap (λ z. M false true z) c))
                    | IsEmptying y a c ↦
                        let e : at p ≡ p + 1 = seqs.places.cells p _ c
                        in inr (inr (omega (arith, e), tests ∙ ap (λ z. M false true z) c))
                  ]
            ]
      ]

  -- a pop at its second step
  abbrev pub PopLooks : ℕ → Type 0
  PopLooks p =
      ((at p < p + 1) × (move_of n q (round.PopRead p) ≡ makes (Front p) (round.PopFronted p)))
      ⊎ (((at p ≡ p + 1) × (move_of n q (round.PopRead p) ≡ goes_on (round.PopReady p)))
      ⊎ ((p + 1 < at p) × (move_of n q (round.PopRead p) ≡ ends (PopBusy p))))

  abbrev pop_move : ℕ → Bool → Bool → Option (Cell T) → Move T
  pop_move p here early o =
      cond (here && (is_none o || is_claimed o)) (makes (Front p) (round.PopFronted p))
      (cond (early && is_none o) (ends (PopBusy p)) (goes_on (round.PopReady p)))

  -- a front ticket that is not listed is the next one
  waits_at : (p : ℕ) → p ≡ q.front → cell_of p q.cells ≡ None → at p ≤ p
  waits_at p same none =
      elim (leb_tells (suc p) q.next) [
        | inl early ↦
            let there : IsListed p q.cells = sound.listed p (omega (arith, same)) (omega (arith, early.1))
            in absurd (none_listed p (cell_of p q.cells) there.0 none there.1)
        | inr late ↦
            elim (blocked_or_room n p q.cells) [
              | inl block ↦ omega (arith, blocked_at p block.1)
              | inr room ↦
                  let e : at p ≡ p =
                  seqs.places.free p (omega (arith, late.1)) (omega (arith, same, sound.ordered)) room.1
                  in omega (arith, e)
            ]
      ]

  pub pop_looks : (p : ℕ) → p ≤ q.front → PopLooks p
  pop_looks p low =
      let M : Bool → Bool → Option (Cell T) → Move T = pop_move p
      in let o : Option (Cell T) = cell_of p q.cells
      in elim (leb_tells (suc p) q.front) [
        | inl early ↦
            let other : p ≢ q.front = omega (arith, early.1)
            in let tests : M (p == q.front) (ltb p q.front) o ≡ M false true o =
            ap (λ b. M b (ltb p q.front) o) (eq_no p q.front other) ∙ ap (λ b. M false b o) early.0
            in elim (found q.cells p) [
              | Absent none ↦
                  let on : p + n ≤ at p = passed p (omega (arith, early.1, sound.ordered)) none
                  in inr (inr (omega (arith, on), tests ∙ ap (λ z. M false true z) none))
              | IsClaimed y a c ↦
                  let bad : Claimed ≡ Emptying = (sound.emptied p _ c).1 (omega (arith, early.1)) in cc
              | IsThere y a c ↦
                  let bad : Written ≡ Emptying = (sound.emptied p _ c).1 (omega (arith, early.1)) in cc
              | IsEmptying y a c ↦ inr (inl (seqs.places.cells p _ c, tests ∙ ap (λ z. M false true z) c))
            ]
        | inr late ↦
            let same : p ≡ q.front = omega (arith, late.1)
            in let tests : M (p == q.front) (ltb p q.front) o ≡ M true false o =
            ap (λ b. M b (ltb p q.front) o) (eq_yes p q.front same) ∙ ap (λ b. M true b o) late.0
            in elim (found q.cells p) [
              | Absent none ↦ inl (omega (arith, waits_at p same none), tests ∙ ap (λ z. M true false z) none)
              | IsClaimed y a c ↦
                  let e : at p ≡ p = seqs.places.cells p _ c
                  in inl (omega (arith, e), tests ∙ ap (λ z. M true false z) c)
              | IsThere y a c ↦ inr (inl (seqs.places.cells p _ c, tests ∙ ap (λ z. M true false z) c))
              | IsEmptying y a c ↦
                  let gone : p < q.front = (sound.emptied p _ c).0 refl in absurd (omega (arith, gone, same))
            ]
      ]
