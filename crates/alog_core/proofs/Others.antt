-- What a round knows stays true whatever another actor does.
use Rattle.std.proofs.Common.{◌≡◌, ◌≢◌, ℕ, ◌≤◌, Option, None, Some, List, [], ◌∷◌, ◌++◌, refl, ap, subst, ◌∙◌, arith}
use Rattle.alog_core.specs.Queue.{Cell, Queue, Event, Claim, Write, Grab, Take, Full, Front, Empty, Idle, PushBusy, PopBusy}
use Rattle.alog_core.specs.Queue.{Spent, last}
use Rattle.alog_core.specs.Queue.{Allows, after, cell_of, marked, without, HasCell, IsRoom, IsWritten, IsSound}
use Rattle.alog_core.specs.Round.{after_event}
use Rattle.alog_core.specs.Staged.{IsStaged}
use Rattle.alog_core.specs.declared.round.Round.{Round}
use Rattle.alog_core.specs.declared.round.Round.TheVariants as round
use Rattle.alog_core.specs.declared.mark.Mark.{Mark}
use Rattle.alog_core.specs.declared.mark.Mark.TheVariants.{Claimed, Written, Emptying}
use Rattle.alog_core.proofs.SharedCells.{cell_of-append_other, cell_of-marked_other, cell_of-without_other}
use Rattle.alog_core.proofs.SharedSound.{next_is_unlisted}

-- another actor's event leaves what actor b relies on
pub record Keeps {T : Type 0} (n : ℕ) (q new : Queue T) (b : ℕ) : Type 0 where
  pub next : q.next ≤ new.next
  pub front : q.front ≤ new.front
  pub room : (p : ℕ) → p ≤ q.next → IsRoom n p q.cells → IsRoom n p new.cells
  pub claimed : (p : ℕ) (x : T) → HasCell q.cells p Claimed x b → HasCell new.cells p Claimed x b
  pub emptying : (p : ℕ) (x : T) → HasCell q.cells p Emptying x b → HasCell new.cells p Emptying x b
  pub written : (p : ℕ) → p ≡ new.front → p ≤ q.front → IsWritten p q.cells → IsWritten p new.cells

keeps_staged : {T : Type 0} (n : ℕ) (q new : Queue T) (b : ℕ) (r : Round T) → Keeps n q new b → IsStaged n q b r
    → IsStaged n new b r
keeps_staged n q new b round.Idle k st = tt
keeps_staged n q new b (round.Push x) k st = tt
keeps_staged n q new b (round.PushRead p x) k st = (omega (arith, k.next, st.0), st.1)
keeps_staged n q new b (round.PushFree p x) k st = (omega (arith, k.next, st.0), st.1, k.room p st.0 st.2)
keeps_staged n q new b (round.PushClaimed p) k st = (st.0, k.claimed p st.0 st.1)
keeps_staged n q new b round.Pop k st = tt
keeps_staged n q new b (round.PopRead p) k st = omega (arith, k.front, st)
keeps_staged n q new b (round.PopReady p) k st =
    (omega (arith, k.front, st.0), λ e. k.written p e st.0 (st.1 (omega (arith, k.front, st.0, e))))
keeps_staged n q new b (round.PopGrabbed p) k st = (st.0, k.emptying p st.0 st.1)
keeps_staged n q new b (round.PopFronted p) k st = omega (arith, k.front, st)

keeps_same : {T : Type 0} (n : ℕ) (q : Queue T) (b : ℕ) → Keeps n q q b
keeps_same n q b =
    record {
      next = omega arith;
      front = omega arith;
      room = λ p le r. r;
      claimed = λ p x h. h;
      emptying = λ p x h. h;
      written = λ p e le w. w;
    }

-- a cell of another ticket is not changed by a mark
other_mark : {T : Type 0} (cs : List (Cell T)) {t p : ℕ} (m : Mark) (a : ℕ) {mark : Mark} {x : T} {b : ℕ} → t ≢ p
    → HasCell cs p mark x b → HasCell (marked t m a cs) p mark x b
other_mark cs {t} {p} m a other h = cell_of-marked_other p t m a cs other ∙ h

-- two look-ups of one ticket find one cell, so one mark and one actor
same_cell : {T : Type 0} (cs : List (Cell T)) (t p : ℕ) (c d : Cell T) → t ≡ p → cell_of t cs ≡ Some c
    → cell_of p cs ≡ Some d → c ≡ d
same_cell {T} cs t p c d e h g = let moved = subst (λ (u : ℕ). cell_of u cs ≡ Some c) e h in cc

same_mark : {T : Type 0} (cs : List (Cell T)) {t p : ℕ} {m k : Mark} {x y : T} {a b : ℕ} → t ≡ p → HasCell cs t m x a
    → HasCell cs p k y b → m ≡ k
same_mark {T} cs {t} {p} {m} {k} {x} {y} {a} {b} e h g =
    ap (λ (c : Cell T). c.mark)
    (same_cell cs t p (record { ticket = t; mark = m; item = x; actor = a })
    (record { ticket = p; mark = k; item = y; actor = b }) e h g)

same_actor : {T : Type 0} (cs : List (Cell T)) {t p : ℕ} {m k : Mark} {x y : T} {a b : ℕ} → t ≡ p → HasCell cs t m x a
    → HasCell cs p k y b → a ≡ b
same_actor {T} cs {t} {p} {m} {k} {x} {y} {a} {b} e h g =
    ap (λ (c : Cell T). c.actor)
    (same_cell cs t p (record { ticket = t; mark = m; item = x; actor = a })
    (record { ticket = p; mark = k; item = y; actor = b }) e h g)

keeps_claim : {T : Type 0} {n : ℕ} {q : Queue T} (a : ℕ) {b t : ℕ} (y : T) → 1 ≤ n → IsSound n q → t ≡ q.next
    → Keeps n q (after q a (Claim t y)) b
keeps_claim {T} {n} {q} a {b} {t} y some s is =
    let c : Cell T = record { ticket = t; mark = Claimed; item = y; actor = a } in
    let none : cell_of t q.cells ≡ None = next_is_unlisted n q t s (omega (arith, is)) in
    let stays : (p : ℕ) (m : Mark) (x : T) (w : ℕ) → HasCell q.cells p m x w → HasCell (q.cells ++ c ∷ []) p m x w =
    λ p m x w h.
    cell_of-append_other p q.cells c (λ e. let bad = subst (λ (u : ℕ). cell_of u q.cells ≡ None) e none in absurd (cc))
    ∙ h
    in
    record {
      next = omega arith;
      front = omega arith;
      room = λ p le r u e. cell_of-append_other u q.cells c (λ same. absurd (omega (arith, le, e, same, is, some))) ∙ r u e;
      claimed = λ p x h. stays p Claimed x b h;
      emptying = λ p x h. stays p Emptying x b h;
      written = λ p e le w. (w.0, w.1, stays p Written w.0 w.1 w.2);
    }

-- a mark leaves a free place free
room_marked : {T : Type 0} (n : ℕ) {p t : ℕ} (m : Mark) (a : ℕ) (cs : List (Cell T)) {k : Mark} {x : T} {w : ℕ}
    → HasCell cs t k x w → IsRoom n p cs → IsRoom n p (marked t m a cs)
room_marked n {t} m a cs {k} {x} {w} h r u e =
    cell_of-marked_other u t m a cs
    (λ same. let bad = r u e in let good = subst (λ (v : ℕ). HasCell cs v k x w) same h in absurd (cc)) ∙ r u e

keeps_write : {T : Type 0} (n : ℕ) (q : Queue T) (a b t : ℕ) (y : T) → a ≢ b → HasCell q.cells t Claimed y a
    → Keeps n q (after q a (Write t)) b
keeps_write {T} n q a b t y other h =
    record {
      next = omega arith;
      front = omega arith;
      room = λ p le r. room_marked n Written a q.cells h r;
      claimed = λ p x g.
          other_mark q.cells {t = t} Written a (λ e. absurd (other (same_actor q.cells e h g))) g;
      emptying = λ p x g.
          other_mark q.cells {t = t} Written a (λ e. let bad = same_mark q.cells e h g in absurd (cc)) g;
      written = λ p e le w. (
        w.0,
        w.1,
        other_mark q.cells {t = t} Written a (λ e. let bad = same_mark q.cells e h w.2 in absurd (cc)) w.2,
      );
    }

keeps_grab : {T : Type 0} (n : ℕ) (q : Queue T) (a b t : ℕ) (y : T) (w : ℕ) → HasCell q.cells t Written y w
    → Keeps n q (after q a (Grab t)) b
keeps_grab {T} n q a b t y w h =
    record {
      next = omega arith;
      front = omega arith;
      room = λ p le r. room_marked n Emptying a q.cells h r;
      claimed = λ p x g.
          other_mark q.cells {t = t} Emptying a (λ e. let bad = same_mark q.cells e h g in absurd (cc)) g;
      emptying = λ p x g.
          other_mark q.cells {t = t} Emptying a (λ e. let bad = same_mark q.cells e h g in absurd (cc)) g;
      written = λ p e le v. absurd (omega (arith, e, le));
    }

keeps_take : {T : Type 0} (n : ℕ) (q : Queue T) (a b t : ℕ) (y : T) → a ≢ b → HasCell q.cells t Emptying y a
    → Keeps n q (after q a (Take t y)) b
keeps_take {T} n q a b t y other h =
    let stays : (p : ℕ) (m : Mark) (x : T) (w : ℕ) → t ≢ p → HasCell q.cells p m x w
    → HasCell (without t q.cells) p m x w = λ p m x w d g. cell_of-without_other p t q.cells d ∙ g in
    record {
      next = omega arith;
      front = omega arith;
      room = λ p le r u e.
          cell_of-without_other u t q.cells
          (λ same. let bad = r u e in let good = subst (λ (v : ℕ). HasCell q.cells v Emptying y a) same h in absurd (cc))
          ∙ r u e;
      claimed = λ p x g.
          stays p Claimed x b (λ e. let bad = same_mark q.cells e h g in absurd (cc)) g;
      emptying = λ p x g.
          stays p Emptying x b (λ e. absurd (other (same_actor q.cells e h g))) g;
      written = λ p e le w. (
        w.0,
        w.1,
        stays p Written w.0 w.1
            (λ e. let bad = same_mark q.cells e h w.2 in absurd (cc)) w.2,
      );
    }

keeps_after : {T : Type 0} {n : ℕ} {q : Queue T} {a b : ℕ} (e : Event T) → 1 ≤ n → IsSound n q → a ≢ b → Allows n q a e
    → Keeps n q (after q a e) b
keeps_after {n} {q} {a} {b} (Claim t x) some s other may = keeps_claim a {b = b} x some s may.0
keeps_after {n} {q} {a} {b} (Write t) some s other may = keeps_write n q a b t may.0 other may.1
keeps_after {n} {q} {a} {b} (Grab t) some s other may = keeps_grab n q a b t may.1.0 may.1.1 may.1.2
keeps_after {n} {q} {a} {b} (Take t x) some s other may = keeps_take n q a b t x other may
keeps_after {n} {q} {b} (Full t) some s other may = keeps_same n q b
keeps_after {n} {q} {b} (Front t) some s other may = keeps_same n q b
keeps_after {n} {q} {b} (Empty t) some s other may = keeps_same n q b
keeps_after {n} {q} {b} (Idle t) some s other may = keeps_same n q b
keeps_after {n} {q} {b} (PushBusy t) some s other may = keeps_same n q b
keeps_after {n} {q} {b} (PopBusy t) some s other may = keeps_same n q b
keeps_after {n} {q} {b} Spent some s other may = keeps_same n q b

-- no position passes the last
issued_after : {T : Type 0} (n : ℕ) (q : Queue T) (a : ℕ) (e : Event T) → q.next ≤ last → Allows n q a e
    → (after q a e).next ≤ last
issued_after n q a (Claim t x) most may = omega (arith, may.0, may.1)
issued_after n q a (Write t) most may = most
issued_after n q a (Grab t) most may = most
issued_after n q a (Take t x) most may = most
issued_after n q a (Full t) most may = most
issued_after n q a (Front t) most may = most
issued_after n q a (Empty t) most may = most
issued_after n q a (Idle t) most may = most
issued_after n q a (PushBusy t) most may = most
issued_after n q a (PopBusy t) most may = most
issued_after n q a Spent most may = most

pub issued_step : {T : Type 0} (n : ℕ) (q : Queue T) (a : ℕ) (o : Option (Event T)) → q.next ≤ last
    → ((e : Event T) → o ≡ Some e → Allows n q a e) → (after_event q a o).next ≤ last
issued_step n q a None most may = most
issued_step n q a (Some e) most may = issued_after n q a e most (may e refl)

pub others_staged : {T : Type 0} {n : ℕ} {q : Queue T} {a b : ℕ} {o : Option (Event T)} (r : Round T) → 1 ≤ n → IsSound n q
    → a ≢ b → ((e : Event T) → o ≡ Some e → Allows n q a e) → IsStaged n q b r → IsStaged n (after_event q a o) b r
others_staged {o = None} r some s other may st = st
others_staged {n} {q} {a} {b} {o = Some e} r some s other may st =
    keeps_staged n q (after q a e) b r (keeps_after e some s other (may e refl)) st
