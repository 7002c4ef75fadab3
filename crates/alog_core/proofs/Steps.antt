-- Each step of a round is an event that the queue allows, or none, and leaves what each round knows true.
use Rattle.std.proofs.Common.{◌≡◌, ◌≢◌, ℕ, ◌+◌, ◌-◌, ◌<◌, ◌≤◌, ◌==◌, ◌&&◌, ◌||◌, ltb, not, Bool, true, false, cond, Option, None}
use Rattle.std.proofs.Common.{Some, List, [], ◌∷◌, inl, inr, refl, sym, ap, subst, ◌∙◌, arith}
use Rattle.std.specs.Option.{is_none}
use Rattle.std.proofs.lemmas.Bool.Decides.{nat_tests}
use Rattle.alog_core.specs.Queue.{Cell, Queue, Event, Claim, Write, Grab, Take, Full, Front, Empty, Idle, PushBusy, PopBusy}
use Rattle.alog_core.specs.Queue.{Spent, last}
use Rattle.alog_core.specs.Queue.{Allows, after, cell_of, HasCell, IsListed, IsBlocked, IsRoom, IsWritten, IsUnwritten, IsSound}
use Rattle.alog_core.specs.Round.{Move, move_of, after_event, goes_on, makes, ends, taking, is_blocked, is_claimed}
use Rattle.alog_core.specs.Staged.{IsStaged}
use Rattle.alog_core.specs.declared.round.Round.{Round}
use Rattle.alog_core.specs.declared.round.Round.TheVariants as round
use Rattle.alog_core.specs.declared.mark.Mark.{Mark}
use Rattle.alog_core.specs.declared.mark.Mark.TheVariants.{Claimed, Written, Emptying}
use Rattle.alog_core.proofs.SharedCells.{on_test, ticket_of_cell, cell_of-append_same, HasCell-marked}
use Rattle.alog_core.proofs.SharedRising.{listed_within}
use Rattle.alog_core.proofs.SharedSound.{next_is_unlisted}

-- a test by its two cases
pub on_either : {X : Type 0} (P : X → Type 0) (b : Bool) (x y : X) → (b ≡ true → P x) → (b ≡ false → P y) → P (cond b x y)
on_either {X} P b x y held failed =
    let by : (v : Bool) → b ≡ v
    → P (cond v x y) = λ v. elim v as (λ w. b ≡ w → P (cond w x y)) [ true ↦ held | false ↦ failed ] in
    by b refl

-- a step is fine: the queue allows its event, and its actor knows what its new round says
pub record IsFine {T : Type 0} (n : ℕ) (q : Queue T) (a : ℕ) (m : Move T) : Type 0 where
  pub allowed : (e : Event T) → m.event ≡ Some e → Allows n q a e
  pub staged : IsStaged n (after_event q a m.event) a m.round

fine_goes_on : {T : Type 0} (n : ℕ) (q : Queue T) (a : ℕ) (r : Round T) → IsStaged n q a r → IsFine n q a (goes_on r)
fine_goes_on n q a r s = record { allowed = λ e h. absurd (cc); staged = s }

fine_makes : {T : Type 0} (n : ℕ) (q : Queue T) (a : ℕ) (e : Event T) (r : Round T) → Allows n q a e
    → IsStaged n (after q a e) a r → IsFine n q a (makes e r)
fine_makes {T} n q a e r may s =
    record {
      allowed = λ f h. let same : e ≡ f = cc in subst (λ (g : Event T). Allows n q a g) same may;
      staged = s;
    }

fine_ends : {T : Type 0} (n : ℕ) (q : Queue T) (a : ℕ) (e : Event T) → Allows n q a e → IsFine n q a (ends e)
fine_ends n q a e may = fine_makes n q a e round.Idle may tt

listed_more : {T : Type 0} (t : ℕ) (c : Cell T) (cs : List (Cell T)) → IsListed t cs → IsListed t (c ∷ cs)
listed_more {T} t c cs l =
    on_test (λ b. (d : Cell T) × (cond b (Some c) (cell_of t cs) ≡ Some d)) c.ticket t (λ _. (c, refl)) (λ _. l)

listed_first : {T : Type 0} (c : Cell T) (cs : List (Cell T)) → IsListed c.ticket (c ∷ cs)
listed_first {T} c cs =
    on_test (λ b. (d : Cell T) × (cond b (Some c) (cell_of c.ticket cs) ≡ Some d)) c.ticket c.ticket (λ _. (c, refl))
    (λ other. absurd (other refl))

-- the ticket that blocks, from the test
pub blocked_from_test : {T : Type 0} (n t : ℕ) (cs : List (Cell T)) → is_blocked n t cs ≡ true → IsBlocked n t cs
blocked_from_test n t [] h = absurd (cc)
blocked_from_test {T} n t (c ∷ cs) h =
    on_test
    (λ b. (b || is_blocked n t cs) ≡ true → IsBlocked n t (c ∷ cs))
    (c.ticket + n)
    t
    (λ e _. (c.ticket, e, listed_first c cs))
    (λ _ found. let later = blocked_from_test n t cs found in (later.0, later.1, listed_more later.0 c cs later.2))
    h

pub room_from_test : {T : Type 0} (n t : ℕ) (cs : List (Cell T)) → is_blocked n t cs ≡ false → IsRoom n t cs
room_from_test n t [] h = λ u e. refl
room_from_test {T} n t (c ∷ cs) h =
    on_test
    (λ b. (b || is_blocked n t cs) ≡ false → IsRoom n t (c ∷ cs))
    (c.ticket + n)
    t
    (λ _ found. absurd (cc))
    (λ other found u e.
    on_test
    (λ b. cond b (Some c) (cell_of u cs) ≡ None)
    c.ticket
    u
    (λ same. absurd (other (ap (λ m. m + n) same ∙ e)))
    (λ _. room_from_test n t cs found u e))
    h

-- A push whose place is not free read the next ticket: an earlier one has no cell so far back.
full_is_next : {T : Type 0} (n : ℕ) (q : Queue T) (p : ℕ) → IsSound n q → p ≤ q.next → IsBlocked n p q.cells → p ≡ q.next
full_is_next n q p s le b =
    let low = listed_within b.0 (q.next - n) q.cells q.next b.2.0 s.rising b.2.1 in
    omega (arith, low, b.1, le)

-- what a look-up of a claimed, a written and an emptying cell tells
cell_is : {T : Type 0} (cs : List (Cell T)) (t : ℕ) (c : Cell T) → cell_of t cs ≡ Some c
    → HasCell cs t c.mark c.item c.actor
cell_is {T} cs t c h =
    let same : c.ticket ≡ t = ticket_of_cell t cs c h in
    h ∙ ap (λ (u : ℕ). Some (let d : Cell T = record { ticket = u; mark = c.mark; item = c.item; actor = c.actor } in d))
    same

-- a cell that is there, by its mark
pub data Found (T : Type 0) (cs : List (Cell T)) (t : ℕ) : Type 0 where
  Absent : cell_of t cs ≡ None → Found T cs t
  IsClaimed : (x : T) (a : ℕ) → HasCell cs t Claimed x a → Found T cs t
  IsThere : (x : T) (a : ℕ) → HasCell cs t Written x a → Found T cs t
  IsEmptying : (x : T) (a : ℕ) → HasCell cs t Emptying x a → Found T cs t

by_mark : {T : Type 0} (cs : List (Cell T)) (t : ℕ) (m : Mark) (x : T) (a : ℕ) → HasCell cs t m x a → Found T cs t
by_mark cs t Claimed x a h = IsClaimed x a h
by_mark cs t Written x a h = IsThere x a h
by_mark cs t Emptying x a h = IsEmptying x a h

pub found : {T : Type 0} (cs : List (Cell T)) (t : ℕ) → Found T cs t
found {T} cs t =
    let by : (o : Option (Cell T)) → cell_of t cs ≡ o → Found T cs t =
    λ o. elim o as (λ v. cell_of t cs ≡ v → Found T cs t) [
      | None ↦ λ h. Absent h
      | Some c ↦ λ h.
          by_mark cs t c.mark c.item c.actor (cell_is cs t c h)
    ]
    in by (cell_of t cs) refl

eq_from_test : (a b : ℕ) → (a == b) ≡ true → a ≡ b
eq_from_test a b h = on_test (λ v. v ≡ true → a ≡ b) a b (λ e _. e) (λ _ bad. absurd (cc)) h

other_from_test : (a b : ℕ) → (a == b) ≡ false → a ≢ b
other_from_test a b h = on_test (λ v. v ≡ false → a ≢ b) a b (λ _ bad. absurd (cc)) (λ other _. other) h

pub less_from_test : (a b : ℕ) → ltb a b ≡ true → a < b
less_from_test a b h = grind (arith, nat_tests)

pub and_first : (a b : Bool) → (a && b) ≡ true → a ≡ true
and_first true b h = refl
and_first false b h = h

pub and_second : (a b : Bool) → (a && b) ≡ true → b ≡ true
and_second true b h = h
and_second false b h = absurd (cc)

-- a front ticket at which a pop does not answer empty is written
written_at : {T : Type 0} (n : ℕ) (q : Queue T) (p : ℕ) → IsSound n q → p ≡ q.front
    → (p == q.front && (is_none (cell_of p q.cells) || is_claimed (cell_of p q.cells))) ≡ false → IsWritten p q.cells
written_at {T} n q p s e h =
    let at : (is_none (cell_of p q.cells) || is_claimed (cell_of p q.cells)) ≡ false =
    on_test (λ v. (v && (is_none (cell_of p q.cells) || is_claimed (cell_of p q.cells))) ≡ false
    → (is_none (cell_of p q.cells) || is_claimed (cell_of p q.cells)) ≡ false) p q.front (λ _ g. g)
    (λ other _. absurd (other e)) h in
    elim (found q.cells p) [
      | Absent none ↦ let bad = rw none at at in absurd (cc)
      | IsClaimed x b c ↦ let bad = rw c at at in absurd (cc)
      | IsThere x b c ↦ (x, b, c)
      | IsEmptying x b c ↦ let early = (s.emptied p _ c).0 refl in absurd (omega (arith, early, e))
    ]

fine_push : {T : Type 0} (n : ℕ) (q : Queue T) (a : ℕ) (x : T) → q.next ≤ last → IsFine n q a (move_of n q (round.Push x))
fine_push n q a x most =
    on_either
    (IsFine n q a)
    (q.next == last)
    (ends Spent)
    (goes_on (round.PushRead q.next x))
    (λ h. fine_ends n q a Spent (eq_from_test q.next last h))
    (λ h. let other = other_from_test q.next last h in
    fine_goes_on n q a (round.PushRead q.next x) (omega arith, omega (arith, other, most)))

fine_push_read : {T : Type 0} (n : ℕ) (q : Queue T) (a p : ℕ) (x : T) → IsSound n q → p ≤ q.next → p < last
    → IsFine n q a (move_of n q (round.PushRead p x))
fine_push_read n q a p x s le below =
    on_either
    (IsFine n q a)
    (is_blocked n p q.cells)
    (ends (Full p))
    (cond (ltb p q.next && not (is_claimed (cell_of p q.cells))) (ends (PushBusy p)) (goes_on (round.PushFree p x)))
    (λ h. let b = blocked_from_test n p q.cells h in fine_ends n q a (Full p) (full_is_next n q p s le b, b))
    (λ h.
    on_either
    (IsFine n q a)
    (ltb p q.next && not (is_claimed (cell_of p q.cells)))
    (ends (PushBusy p))
    (goes_on (round.PushFree p x))
    (λ late. fine_ends n q a (PushBusy p) (less_from_test p q.next (and_first _ _ late)))
    (λ _. fine_goes_on n q a (round.PushFree p x) (le, below, room_from_test n p q.cells h)))

fine_push_free : {T : Type 0} {n : ℕ} {q : Queue T} {a p : ℕ} (x : T) → IsSound n q → p ≤ q.next → p < last
    → IsRoom n p q.cells → IsFine n q a (move_of n q (round.PushFree p x))
fine_push_free {T} {n} {q} {a} {p} x s le below room =
    on_either
    (IsFine n q a)
    (q.next == p)
    (makes (Claim p x) (round.PushClaimed p))
    (ends (PushBusy p))
    (λ h.
    let e = eq_from_test q.next p h in
    let c : Cell T = record { ticket = p; mark = Claimed; item = x; actor = a } in
    fine_makes n q a (Claim p x) (round.PushClaimed p) (sym e, below, room)
    (x, cell_of-append_same p q.cells c refl (next_is_unlisted n q p s (omega (arith, e)))))
    (λ h. let other = other_from_test q.next p h in fine_ends n q a (PushBusy p) (omega (arith, other, le)))

unwritten_at : {T : Type 0} (q : Queue T) (p : ℕ) → (is_none (cell_of p q.cells) || is_claimed (cell_of p q.cells)) ≡ true
    → IsUnwritten p q.cells
unwritten_at q p h =
    elim (found q.cells p) [
      | Absent none ↦ inl none
      | IsClaimed x b c ↦ inr (x, b, c)
      | IsThere x b c ↦ let bad = rw c at h in absurd (cc)
      | IsEmptying x b c ↦ let bad = rw c at h in absurd (cc)
    ]

fine_pop_read : {T : Type 0} (n : ℕ) (q : Queue T) (a p : ℕ) → IsSound n q → p ≤ q.front
    → IsFine n q a (move_of n q (round.PopRead p))
fine_pop_read {T} n q a p s le =
    on_either
    (IsFine n q a)
    (p == q.front && (is_none (cell_of p q.cells) || is_claimed (cell_of p q.cells)))
    (makes (Front p) (round.PopFronted p))
    (cond (ltb p q.front && is_none (cell_of p q.cells)) (ends (PopBusy p)) (goes_on (round.PopReady p)))
    (λ h.
    fine_makes n q a (Front p) (round.PopFronted p)
    (eq_from_test p q.front (and_first _ _ h), unwritten_at q p (and_second _ _ h)) le)
    (λ h.
    on_either
    (IsFine n q a)
    (ltb p q.front && is_none (cell_of p q.cells))
    (ends (PopBusy p))
    (goes_on (round.PopReady p))
    (λ late. fine_ends n q a (PopBusy p) (less_from_test p q.front (and_first _ _ late)))
    (λ _. fine_goes_on n q a (round.PopReady p) (le, λ e. written_at n q p s e h)))

fine_pop_ready : {T : Type 0} (n : ℕ) (q : Queue T) (a p : ℕ) → p ≤ q.front → (p ≡ q.front → IsWritten p q.cells)
    → IsFine n q a (move_of n q (round.PopReady p))
fine_pop_ready n q a p le there =
    on_either
    (IsFine n q a)
    (q.front == p)
    (makes (Grab p) (round.PopGrabbed p))
    (ends (PopBusy p))
    (λ h.
    let e = eq_from_test q.front p h in
    let w = there (sym e) in
    fine_makes n q a (Grab p) (round.PopGrabbed p) (sym e, w)
    (w.0, HasCell-marked q.cells p Written w.0 w.1 Emptying a w.2))
    (λ h. let other = other_from_test q.front p h in fine_ends n q a (PopBusy p) (omega (arith, other, le)))

fine_pop_grabbed : {T : Type 0} (n : ℕ) (q : Queue T) (a p : ℕ) (x : T) → HasCell q.cells p Emptying x a
    → IsFine n q a (move_of n q (round.PopGrabbed p))
fine_pop_grabbed {T} n q a p x c =
    subst (λ (o : Option (Cell T)). IsFine n q a (taking p o)) (sym c) (fine_ends n q a (Take p x) c)

fine_pop_fronted : {T : Type 0} (n : ℕ) (q : Queue T) (a p : ℕ) → IsSound n q → p ≤ q.front
    → IsFine n q a (move_of n q (round.PopFronted p))
fine_pop_fronted n q a p s le =
    on_either
    (IsFine n q a)
    (q.next == p)
    (ends (Idle p))
    (ends (Empty p))
    (λ h.
    let e = eq_from_test q.next p h in fine_ends n q a (Idle p) (sym e, omega (arith, e, le, s.ordered)))
    (λ h. let other = other_from_test q.next p h in fine_ends n q a (Empty p) (omega (arith, other, le, s.ordered)))

-- each step of a round is fine
pub fine_move : {T : Type 0} (n : ℕ) (q : Queue T) (a : ℕ) (r : Round T) → IsSound n q → q.next ≤ last → IsStaged n q a r
    → IsFine n q a (move_of n q r)
fine_move n q a round.Idle s most st = fine_goes_on n q a round.Idle tt
fine_move n q a (round.Push x) s most st = fine_push n q a x most
fine_move n q a (round.PushRead p x) s most st = fine_push_read n q a p x s st.0 st.1
fine_move n q a (round.PushFree p x) s most st = fine_push_free {a = a} x s st.0 st.1 st.2
fine_move n q a (round.PushClaimed p) s most st = fine_ends n q a (Write p) st
fine_move n q a round.Pop s most st = fine_goes_on n q a (round.PopRead q.front) (omega arith)
fine_move n q a (round.PopRead p) s most st = fine_pop_read n q a p s st
fine_move n q a (round.PopReady p) s most st = fine_pop_ready n q a p st.0 st.1
fine_move n q a (round.PopGrabbed p) s most st = fine_pop_grabbed n q a p st.0 st.1
fine_move n q a (round.PopFronted p) s most st = fine_pop_fronted n q a p s st
