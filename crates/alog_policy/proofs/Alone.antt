-- A round in which nobody else steps: the ticket that it read is the queue's own still, so that it is never busy.
use Rattle.std.proofs.Common.{◌≡◌, ℕ, cond, Bool, Option, None, Some, refl, sym, subst, arith, false}
use Rattle.std.specs.Prelude.{◌==◌, ◌&&◌, ◌||◌, not, nat_lt, is_none}
use Rattle.std.specs.List.{AllByRecursion}
use Rattle.std.proofs.lemmas.Bool.{le-ltb}
use Rattle.alog_core.specs.Queue.{Cell, Queue, Claim, Full, Front, Empty, Idle, PushBusy, PopBusy, Spent, Grab, last, cell_of}
use Rattle.alog_core.specs.Round.{Move, move_of, goes_on, makes, ends, taking, is_blocked, is_claimed, after_event}
use Rattle.alog_core.specs.declared.round.Round.{Round}
use Rattle.alog_core.specs.declared.round.Round.TheVariants as round
use Rattle.alog_core.proofs.SharedCells.{on_test}
use Rattle.alog_policy.specs.Desk.{event_of}
use Rattle.alog_policy.specs.DeskOutlet.{IsUnbeaten}
use Rattle.alog_policy.proofs.SharedStepKinds.{either}

-- the ticket that the round read is still the next one, or the front
abbrev pub IsCurrent : {T : Type 0} → Queue T → Round T → Type 0
IsCurrent q round.Idle = Unit {0}
IsCurrent q (round.Push x) = Unit {0}
IsCurrent q (round.PushRead p x) = p ≡ q.next
IsCurrent q (round.PushFree p x) = p ≡ q.next
IsCurrent q (round.PushClaimed p) = Unit {0}
IsCurrent q round.Pop = Unit {0}
IsCurrent q (round.PopRead p) = p ≡ q.front
IsCurrent q (round.PopReady p) = p ≡ q.front
IsCurrent q (round.PopGrabbed p) = Unit {0}
IsCurrent q (round.PopFronted p) = Unit {0}

-- a test that fails
never : {X : Type 0} (P : X → Type 0) (b c : Bool) (x y : X) → b ≡ false → P y → P (cond (b && c) x y)
never P b c x y fails p = subst (λ (t : Bool). P (cond (t && c) x y)) (sym fails) p

module _ {T : Type 0} (n : ℕ) (q : Queue T) (a : ℕ) where
  -- a step that is not busy, and leaves the round current
  abbrev pub StaysCurrent : Move T → Type 0
  StaysCurrent m = AllByRecursion IsUnbeaten (event_of m.event) × IsCurrent (after_event q a m.event) m.round

  current_push_read : (p : ℕ) (x : T) → p ≡ q.next → StaysCurrent (move_of n q (round.PushRead p x))
  current_push_read p x is =
      let claimed : Bool = not (is_claimed (cell_of p q.cells)) in
      let late : Bool = nat_lt p q.next && claimed in
      either StaysCurrent (is_blocked n p q.cells) (ends (Full p))
      (cond late (ends (PushBusy p)) (goes_on (round.PushFree p x))) ((tt, tt), tt)
      (never StaysCurrent (nat_lt p q.next) claimed (ends (PushBusy p)) (goes_on (round.PushFree p x))
      (le-ltb p q.next (omega (arith, is))) (tt, is))

  current_pop_read : (p : ℕ) → p ≡ q.front → StaysCurrent (move_of n q (round.PopRead p))
  current_pop_read p is =
      let unwritten : Bool = p == q.front && (is_none (cell_of p q.cells) || is_claimed (cell_of p q.cells)) in
      let gone : Bool = is_none (cell_of p q.cells) in
      let late : Bool = nat_lt p q.front && gone in
      either StaysCurrent unwritten (makes (Front p) (round.PopFronted p))
      (cond late (ends (PopBusy p)) (goes_on (round.PopReady p))) ((tt, tt), tt)
      (never StaysCurrent (nat_lt p q.front) gone (ends (PopBusy p)) (goes_on (round.PopReady p))
      (le-ltb p q.front (omega (arith, is))) (tt, is))

  current_taking : (p : ℕ) (o : Option (Cell T)) → StaysCurrent (taking p o)
  current_taking p None = (tt, tt)
  current_taking p (Some c) = ((tt, tt), tt)

  pub stays_current : (r : Round T) → IsCurrent q r → StaysCurrent (move_of n q r)
  stays_current round.Idle is = (tt, tt)
  stays_current (round.Push x) is =
      either StaysCurrent (q.next == last) (ends Spent) (goes_on (round.PushRead q.next x)) ((tt, tt), tt) (tt, refl)
  stays_current (round.PushRead p x) is = current_push_read p x is
  stays_current (round.PushFree p x) is =
      on_test (λ b. StaysCurrent (cond b (makes (Claim p x) (round.PushClaimed p)) (ends (PushBusy p)))) q.next p
      (λ _. ((tt, tt), tt)) (λ other. absurd (other (sym is)))
  stays_current (round.PushClaimed p) is = ((tt, tt), tt)
  stays_current round.Pop is = (tt, refl)
  stays_current (round.PopRead p) is = current_pop_read p is
  stays_current (round.PopReady p) is =
      on_test (λ b. StaysCurrent (cond b (makes (Grab p) (round.PopGrabbed p)) (ends (PopBusy p)))) q.front p
      (λ _. ((tt, tt), tt)) (λ other. absurd (other (sym is)))
  stays_current (round.PopGrabbed p) is = current_taking p (cell_of p q.cells)
  stays_current (round.PopFronted p) is =
      either StaysCurrent (q.next == p) (ends (Idle p)) (ends (Empty p)) ((tt, tt), tt) ((tt, tt), tt)
