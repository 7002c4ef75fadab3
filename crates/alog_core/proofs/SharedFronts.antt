-- A pop that is before its last look found a front, and did nothing since: what it says then follows that front.
use Rattle.std.proofs.Common.{◌≡◌, ◌≢◌, ℕ, ◌<◌, ◌==◌, ◌&&◌, ◌||◌, not, ltb, cond, Bool, Option, None, Some, List, [], ◌++◌}
use Rattle.std.proofs.Common.{length, get_or, set, get_or-set_other, get_or-set_same, inl, inr, refl, sym, ap, subst, ◌∙◌, arith}
use Rattle.std.proofs.Common.{append_assoc, replicate, zero, suc}
use Rattle.std.specs.Option.{is_none}
use Rattle.std.proofs.lemmas.Bool.Decides.{eqb_tells}
use Rattle.std.proofs.lemmas.List.{append-nil}
use Rattle.alog_core.specs.Queue.{Cell, Queue, Event, Claim, Write, Grab, Take, Full, Front, Empty, Idle, PushBusy, PopBusy}
use Rattle.alog_core.specs.Queue.{Spent, last, cell_of}
use Rattle.alog_core.specs.Round.{Move, move_of, goes_on, makes, ends, taking, is_blocked, is_claimed}
use Rattle.alog_core.specs.History.{Entry, latest, Follows, StandsFor}
use Rattle.alog_core.specs.World.{Machine, fresh, round_of, began, next_move, stepped, entries_of}
use Rattle.alog_core.specs.Run.{LeadsTo, GoesOn, entries_of_step}
use Rattle.alog_core.specs.Staged.{IsReached}
use Rattle.alog_core.specs.declared.TheConstants.{ACTORS}
use Rattle.alog_core.specs.declared.round.Round.{Round}
use Rattle.alog_core.specs.declared.round.Round.TheVariants as round
use Rattle.alog_core.proofs.SharedHistories.{stands_start, stands_step, latest_own, latest_other}
use Rattle.alog_core.proofs.Steps.{on_either}
use Rattle.alog_core.proofs.SharedReached.{fine_step}

-- what a move says follows the event o before it, and where it leaves its actor before the last look, it was a front
record KeepsFronts {T : Type 0} (o : Option (Event T)) (m : Move T) : Type 0 where
  pub follows : (e : Event T) → m.event ≡ Some e → Follows o e
  pub fronts : (p : ℕ) → m.round ≡ round.PopFronted p → m.event ≡ Some (Front p)

on_keeps : {T : Type 0} (o : Option (Event T)) (r : Round T) → ((p : ℕ) → r ≢ round.PopFronted p) → KeepsFronts o (goes_on r)
on_keeps o r other = record { follows = λ e h. absurd (cc); fronts = λ p is. absurd (other p is) }

makes_keeps : {T : Type 0} (o : Option (Event T)) (e : Event T) (r : Round T) → Follows o e
    → ((p : ℕ) → r ≡ round.PopFronted p → e ≡ Front p) → KeepsFronts o (makes e r)
makes_keeps {T} o e r follows front =
    record {
      follows = λ f h. let same : e ≡ f = cc in subst (λ (g : Event T). Follows o g) same follows;
      fronts = λ p is. ap (λ (g : Event T). Some g) (front p is);
    }

ends_keeps : {T : Type 0} (o : Option (Event T)) (e : Event T) → Follows o e → KeepsFronts o (ends e)
ends_keeps o e follows = makes_keeps o e round.Idle follows (λ p is. absurd (cc))

taking_keeps : {T : Type 0} (o : Option (Event T)) (t : ℕ) (c : Option (Cell T)) → KeepsFronts o (taking t c)
taking_keeps o t None = on_keeps o round.Idle (λ p is. cc)
taking_keeps o t (Some c) = ends_keeps o (Take t c.item) tt

keeps_move : {T : Type 0} (n : ℕ) (q : Queue T) (r : Round T) (o : Option (Event T))
    → ((p : ℕ) → r ≡ round.PopFronted p → o ≡ Some (Front p)) → KeepsFronts o (move_of n q r)
keeps_move n q round.Idle o was = on_keeps o round.Idle (λ p is. cc)
keeps_move n q (round.Push x) o was =
    on_either (KeepsFronts o) (q.next == last) (ends Spent) (goes_on (round.PushRead q.next x)) (λ _. ends_keeps o Spent tt)
    (λ _. on_keeps o (round.PushRead q.next x) (λ p is. cc))
keeps_move n q (round.PushRead t x) o was =
    let late : Bool = ltb t q.next && not (is_claimed (cell_of t q.cells)) in
    on_either (KeepsFronts o) (is_blocked n t q.cells) (ends (Full t)) (cond late (ends (PushBusy t)) (goes_on (round.PushFree t x)))
    (λ _. ends_keeps o (Full t) tt)
    (λ _. on_either (KeepsFronts o) late (ends (PushBusy t)) (goes_on (round.PushFree t x)) (λ _. ends_keeps o (PushBusy t) tt)
    (λ _. on_keeps o (round.PushFree t x) (λ p is. cc)))
keeps_move n q (round.PushFree t x) o was =
    on_either (KeepsFronts o) (q.next == t) (makes (Claim t x) (round.PushClaimed t)) (ends (PushBusy t))
    (λ _. makes_keeps o (Claim t x) (round.PushClaimed t) tt (λ p is. absurd (cc))) (λ _. ends_keeps o (PushBusy t) tt)
keeps_move n q (round.PushClaimed t) o was = ends_keeps o (Write t) tt
keeps_move n q round.Pop o was = on_keeps o (round.PopRead q.front) (λ p is. cc)
keeps_move n q (round.PopRead t) o was =
    let none : Bool = t == q.front && (is_none (cell_of t q.cells) || is_claimed (cell_of t q.cells)) in
    let late : Bool = ltb t q.front && is_none (cell_of t q.cells) in
    on_either (KeepsFronts o) none (makes (Front t) (round.PopFronted t)) (cond late (ends (PopBusy t)) (goes_on (round.PopReady t)))
    (λ _. makes_keeps o (Front t) (round.PopFronted t) tt (λ p is. cc))
    (λ _. on_either (KeepsFronts o) late (ends (PopBusy t)) (goes_on (round.PopReady t)) (λ _. ends_keeps o (PopBusy t) tt)
    (λ _. on_keeps o (round.PopReady t) (λ p is. cc)))
keeps_move n q (round.PopReady t) o was =
    on_either (KeepsFronts o) (q.front == t) (makes (Grab t) (round.PopGrabbed t)) (ends (PopBusy t))
    (λ _. makes_keeps o (Grab t) (round.PopGrabbed t) tt (λ p is. absurd (cc))) (λ _. ends_keeps o (PopBusy t) tt)
keeps_move n q (round.PopGrabbed t) o was = taking_keeps o t (cell_of t q.cells)
keeps_move n q (round.PopFronted t) o was =
    on_either (KeepsFronts o) (q.next == t) (ends (Idle t)) (ends (Empty t)) (λ _. ends_keeps o (Idle t) (was t refl))
    (λ _. ends_keeps o (Empty t) (was t refl))

-- a round is another actor's, or it is the one that was set
round_set : {T : Type 0} (m : Machine T) {a b : ℕ} {r s : Round T} → length m.rounds ≡ ACTORS → a < ACTORS
    → get_or (set m.rounds a r) b round.Idle ≡ s → (a ≡ b → r ≡ s → ⊥) → round_of m b ≡ s
round_set {T} m {a} {b} {r} {s} all lt is apart =
    let at : a < length m.rounds = omega (arith, all, lt) in
    elim (eqb_tells a b) [
      | inl here ↦
          let P : ℕ → Type 0 = λ u. get_or (set m.rounds a r) u round.Idle ≡ s in
          absurd (apart here.1 (sym (get_or-set_same m.rounds a r round.Idle at) ∙ subst P (sym here.1) is))
      | inr other ↦ sym (get_or-set_other m.rounds a b r round.Idle (λ e. other.1 (sym e))) ∙ is
    ]

-- a history leads on to a machine with the same queue, in which no more actors are before the last look
pub goes_nowhere : {T N : Type 0} (m k : Machine T) → k.places ≡ m.places → k.queue ≡ m.queue
    → ((a p : ℕ) → round_of k a ≡ round.PopFronted p → round_of m a ≡ round.PopFronted p) → GoesOn {N = N} m [] k
goes_nowhere {T} {N} m k places queue fronts f h leads =
    subst (λ (g : List (Entry T N)). LeadsTo f g k) (sym (append-nil h)) (record {
      stands = subst (λ (n : ℕ). StandsFor n f h k.queue) (sym places)
          (subst (λ (q : Queue T). StandsFor m.places f h q) (sym queue) leads.stands);
      fronts = λ a p is. leads.fronts a p (fronts a p is);
    })

pub goes_same : {T N : Type 0} (m : Machine T) → GoesOn {N = N} m [] m
goes_same m = goes_nowhere m m refl refl (λ a p is. is)

-- nobody is in a round of a new machine, so the empty history leads to it
all_the_same : {X : Type 0} (n i : ℕ) (x : X) → get_or (replicate n x) i x ≡ x
all_the_same zero i x = refl
all_the_same (suc n) zero x = refl
all_the_same (suc n) (suc i) x = all_the_same n i x

pub leads_start : {T N : Type 0} (n f : ℕ) → LeadsTo {N = N} f [] (fresh {T = T} n f)
leads_start {T} n f = record {
  stands = stands_start n f;
  fronts = λ a p is.
      let idle : round_of (fresh {T = T} n f) a ≡ round.Idle = all_the_same ACTORS a round.Idle in absurd (cc);
}

-- a call that begins is not before a last look
pub goes_began : {T N : Type 0} (m : Machine T) (a : ℕ) (r : Round T) → length m.rounds ≡ ACTORS → a < ACTORS
    → ((p : ℕ) → r ≢ round.PopFronted p) → GoesOn {N = N} m [] (began m a r)
goes_began m a r all lt other =
    goes_nowhere m (began m a r) refl refl
    (λ b p is. round_set m {a = a} {b = b} {r = r} all lt is (λ _ e. other p e))

-- a step's event is its actor's last, and leaves the others'
latest_after : {T N : Type 0} (a b : ℕ) (note : N) (h : List (Entry T N)) (o : Option (Event T)) → a ≢ b
    → latest b (h ++ entries_of a note o) ≡ latest b h
latest_after b c note h None other = ap (λ g. latest c g) (append-nil h)
latest_after a b note h (Some e) other = latest_other b h (record { actor = a; event = e; note = note }) other

-- after the front that it found, an actor is before its last look
own_front : {T : Type 0} (m : Machine T) {a b p : ℕ} (h : List (Entry T (Unit {0}))) (move : Move T)
    → ((p : ℕ) → move.round ≡ round.PopFronted p → move.event ≡ Some (Front p)) → a ≡ b → length m.rounds ≡ ACTORS → a < ACTORS
    → get_or (set m.rounds a move.round) b round.Idle ≡ round.PopFronted p
    → latest b (h ++ entries_of a tt move.event) ≡ Some (Front p)
own_front {T} m {a} {b} {p} h move fronts here all lt is =
    let at : a < length m.rounds = omega (arith, all, lt) in
    let P : ℕ → Type 0 = λ u. get_or (set m.rounds a move.round) u round.Idle ≡ round.PopFronted p in
    let front : move.event ≡ Some (Front p) =
    fronts p (sym (get_or-set_same m.rounds a move.round round.Idle at) ∙ subst P (sym here) is) in
    ap (λ o. latest b (h ++ entries_of a tt o)) front
    ∙ latest_own b h (record { actor = a; event = Front p; note = tt }) here

pub goes_step : {T : Type 0} (m : Machine T) (a : ℕ) → IsReached m → a < ACTORS → GoesOn m (entries_of_step m a) (stepped m a)
goes_step {T} m a reached lt f h leads =
    let move : Move T = next_move m a in
    let says : KeepsFronts (latest a h) move = keeps_move m.places m.queue (round_of m a) (latest a h) (leads.fronts a) in
    record {
      stands = stands_step a tt leads.stands (fine_step m a reached lt).allowed says.follows;
      fronts = λ b p is.
          elim (eqb_tells a b) [
            | inl here ↦ own_front m h move says.fronts here.1 reached.actors lt is
            | inr other ↦
                latest_after a b tt h move.event other.1
                ∙ leads.fronts b p
                (round_set m {a = a} {b = b} {r = move.round} reached.actors lt is (λ e _. other.1 e))
          ];
    }

-- one run after another
pub goes_further : {T N : Type 0} (m k l : Machine T) (g h : List (Entry T N)) → GoesOn m g k → GoesOn k h l → GoesOn m (g ++ h) l
goes_further {T} {N} m k l g h first then f before leads =
    subst (λ (x : List (Entry T N)). LeadsTo f x l) (append_assoc before g h) (then f (before ++ g) (first f before leads))
