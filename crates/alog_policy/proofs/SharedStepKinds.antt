-- What kind of step each step of a round is.
use Rattle.std.proofs.Common.{◌≡◌, ◌<◌, ℕ, cond, Bool, true, false, Option, None, Some, refl, sym, ap, subst, arith}
use Rattle.std.specs.Prelude.{◌==◌, ◌&&◌, ◌||◌, not, nat_lt, is_none}
use Rattle.alog_core.specs.Queue.{Cell, Queue, Claim, Write, Grab, Take, Full, Front, Empty, Idle, PushBusy, PopBusy, Spent}
use Rattle.alog_core.specs.Queue.{last, cell_of}
use Rattle.alog_core.specs.Round.{Move, move_of, goes_on, makes, ends, taking, is_blocked, is_claimed}
use Rattle.alog_core.specs.World.{brought}
use Rattle.alog_core.specs.declared.round.Round.{Round}
use Rattle.alog_core.specs.declared.round.Round.TheVariants as round

-- a push that has the item still
abbrev pub PushHas : {T : Type 0} → T → Round T → Type 0
PushHas x round.Idle = ⊥
PushHas x (round.Push y) = y ≡ x
PushHas x (round.PushRead p y) = y ≡ x
PushHas x (round.PushFree p y) = y ≡ x
PushHas x (round.PushClaimed p) = ⊥
PushHas x round.Pop = ⊥
PushHas x (round.PopRead p) = ⊥
PushHas x (round.PopReady p) = ⊥
PushHas x (round.PopGrabbed p) = ⊥
PushHas x (round.PopFronted p) = ⊥

-- a pop that has made no event yet
abbrev pub PopSeeks : {T : Type 0} → Round T → Type 0
PopSeeks round.Idle = ⊥
PopSeeks (round.Push y) = ⊥
PopSeeks (round.PushRead p y) = ⊥
PopSeeks (round.PushFree p y) = ⊥
PopSeeks (round.PushClaimed p) = ⊥
PopSeeks round.Pop = Unit {0}
PopSeeks (round.PopRead p) = Unit {0}
PopSeeks (round.PopReady p) = Unit {0}
PopSeeks (round.PopGrabbed p) = ⊥
PopSeeks (round.PopFronted p) = ⊥

-- how many steps are left to a round, at most
abbrev pub steps_left : {T : Type 0} → Round T → ℕ
steps_left round.Idle = 0
steps_left (round.Push y) = 4
steps_left (round.PushRead p y) = 3
steps_left (round.PushFree p y) = 2
steps_left (round.PushClaimed p) = 1
steps_left round.Pop = 4
steps_left (round.PopRead p) = 3
steps_left (round.PopReady p) = 2
steps_left (round.PopGrabbed p) = 1
steps_left (round.PopFronted p) = 1

-- a step of a round, by its event and where it leaves the actor
pub data Kind (T : Type 0) (r : Round T) (m : Move T) : Type 0 where
  IsIdle : r ≡ round.Idle → Kind T r m
  Pushes : (x : T) → PushHas x r → m.event ≡ None → PushHas x m.round → steps_left m.round < steps_left r → Kind T r m
  Claims : (x : T) (t : ℕ) → PushHas x r → m.event ≡ Some (Claim t x) → m.round ≡ round.PushClaimed t → Kind T r m
  FindsFull : (x : T) (t : ℕ) → PushHas x r → m.event ≡ Some (Full t) → m.round ≡ round.Idle → Kind T r m
  PushIsBusy : (x : T) (t : ℕ) → PushHas x r → m.event ≡ Some (PushBusy t) → m.round ≡ round.Idle → Kind T r m
  IsSpent : (x : T) → PushHas x r → m.event ≡ Some Spent → m.round ≡ round.Idle → Kind T r m
  Writes : (t : ℕ) → r ≡ round.PushClaimed t → m.event ≡ Some (Write t) → m.round ≡ round.Idle → Kind T r m
  Pops : PopSeeks r → m.event ≡ None → PopSeeks m.round → steps_left m.round < steps_left r → Kind T r m
  Grabs : (t : ℕ) → PopSeeks r → m.event ≡ Some (Grab t) → m.round ≡ round.PopGrabbed t → Kind T r m
  FindsFront : (t : ℕ) → PopSeeks r → m.event ≡ Some (Front t) → m.round ≡ round.PopFronted t → Kind T r m
  FindsEmpty : (t : ℕ) → r ≡ round.PopFronted t → m.event ≡ Some (Empty t) → m.round ≡ round.Idle → Kind T r m
  FindsIdle : (t : ℕ) → r ≡ round.PopFronted t → m.event ≡ Some (Idle t) → m.round ≡ round.Idle → Kind T r m
  PopIsBusy : (t : ℕ) → PopSeeks r → m.event ≡ Some (PopBusy t) → m.round ≡ round.Idle → Kind T r m
  Takes : (t : ℕ) (y : T) → r ≡ round.PopGrabbed t → m.event ≡ Some (Take t y) → m.round ≡ round.Idle → Kind T r m

-- whichever way a test comes out
pub either : {X : Type 0} (P : X → Type 0) (b : Bool) (x y : X) → P x → P y → P (cond b x y)
either P true x y p q = p
either P false x y p q = q

kind_push : {T : Type 0} (n : ℕ) (q : Queue T) (x : T) → Kind T (round.Push x) (move_of n q (round.Push x))
kind_push {T} n q x =
    either (Kind T (round.Push x)) (q.next == last) (ends Spent) (goes_on (round.PushRead q.next x))
    (IsSpent x refl refl refl) (Pushes x refl refl refl (omega arith))

kind_push_read : {T : Type 0} (n : ℕ) (q : Queue T) (p : ℕ) (x : T)
    → Kind T (round.PushRead p x) (move_of n q (round.PushRead p x))
kind_push_read {T} n q p x =
    let late : Bool = nat_lt p q.next && not (is_claimed (cell_of p q.cells)) in
    either (Kind T (round.PushRead p x)) (is_blocked n p q.cells) (ends (Full p))
    (cond late (ends (PushBusy p)) (goes_on (round.PushFree p x))) (FindsFull x p refl refl refl)
    (either (Kind T (round.PushRead p x)) late (ends (PushBusy p)) (goes_on (round.PushFree p x))
    (PushIsBusy x p refl refl refl) (Pushes x refl refl refl (omega arith)))

kind_push_free : {T : Type 0} (n : ℕ) (q : Queue T) (p : ℕ) (x : T)
    → Kind T (round.PushFree p x) (move_of n q (round.PushFree p x))
kind_push_free {T} n q p x =
    either (Kind T (round.PushFree p x)) (q.next == p) (makes (Claim p x) (round.PushClaimed p)) (ends (PushBusy p))
    (Claims x p refl refl refl) (PushIsBusy x p refl refl refl)

kind_pop_read : {T : Type 0} (n : ℕ) (q : Queue T) (p : ℕ) → Kind T (round.PopRead p) (move_of n q (round.PopRead p))
kind_pop_read {T} n q p =
    let unwritten : Bool = p == q.front && (is_none (cell_of p q.cells) || is_claimed (cell_of p q.cells)) in
    let late : Bool = nat_lt p q.front && is_none (cell_of p q.cells) in
    either (Kind T (round.PopRead p)) unwritten (makes (Front p) (round.PopFronted p))
    (cond late (ends (PopBusy p)) (goes_on (round.PopReady p))) (FindsFront p tt refl refl)
    (either (Kind T (round.PopRead p)) late (ends (PopBusy p)) (goes_on (round.PopReady p)) (PopIsBusy p tt refl refl)
    (Pops tt refl tt (omega arith)))

kind_pop_ready : {T : Type 0} (n : ℕ) (q : Queue T) (p : ℕ) → Kind T (round.PopReady p) (move_of n q (round.PopReady p))
kind_pop_ready {T} n q p =
    either (Kind T (round.PopReady p)) (q.front == p) (makes (Grab p) (round.PopGrabbed p)) (ends (PopBusy p))
    (Grabs p tt refl refl) (PopIsBusy p tt refl refl)

kind_pop_fronted : {T : Type 0} (n : ℕ) (q : Queue T) (p : ℕ) → Kind T (round.PopFronted p) (move_of n q (round.PopFronted p))
kind_pop_fronted {T} n q p =
    either (Kind T (round.PopFronted p)) (q.next == p) (ends (Idle p)) (ends (Empty p)) (FindsIdle p refl refl refl)
    (FindsEmpty p refl refl refl)

kind_taking : {T : Type 0} (p : ℕ) (o : Option (Cell T)) (c : Cell T) → o ≡ Some c
    → Kind T (round.PopGrabbed p) (taking p o)
kind_taking {T} p o c e =
    subst (λ (k : Option (Cell T)). Kind T (round.PopGrabbed p) (taking p k)) (sym e) (Takes p c.item refl refl refl)

-- each step is of one of these kinds, where whoever grabbed a ticket has its cell
pub kind_of : {T : Type 0} (n : ℕ) (q : Queue T) (r : Round T)
    → ((t : ℕ) → r ≡ round.PopGrabbed t → (c : Cell T) × (cell_of t q.cells ≡ Some c)) → Kind T r (move_of n q r)
kind_of n q round.Idle has = IsIdle refl
kind_of n q (round.Push x) has = kind_push n q x
kind_of n q (round.PushRead p x) has = kind_push_read n q p x
kind_of n q (round.PushFree p x) has = kind_push_free n q p x
kind_of n q (round.PushClaimed p) has = Writes p refl refl refl
kind_of n q round.Pop has = Pops tt refl tt (omega arith)
kind_of n q (round.PopRead p) has = kind_pop_read n q p
kind_of n q (round.PopReady p) has = kind_pop_ready n q p
kind_of n q (round.PopGrabbed p) has = let c = has p refl in kind_taking p (cell_of p q.cells) c.0 c.1
kind_of n q (round.PopFronted p) has = kind_pop_fronted n q p

-- what a push still has is what it brought, and a pop brought nothing
pub brought_push : {T : Type 0} (x : T) (r : Round T) → PushHas x r → brought r ≡ Some x
brought_push x round.Idle h = absurd h
brought_push x (round.Push y) h = ap Some h
brought_push x (round.PushRead p y) h = ap Some h
brought_push x (round.PushFree p y) h = ap Some h
brought_push x (round.PushClaimed p) h = absurd h
brought_push x round.Pop h = absurd h
brought_push x (round.PopRead p) h = absurd h
brought_push x (round.PopReady p) h = absurd h
brought_push x (round.PopGrabbed p) h = absurd h
brought_push x (round.PopFronted p) h = absurd h

pub brought_pop : {T : Type 0} (r : Round T) → PopSeeks r → brought r ≡ None
brought_pop round.Idle h = absurd h
brought_pop (round.Push y) h = absurd h
brought_pop (round.PushRead p y) h = absurd h
brought_pop (round.PushFree p y) h = absurd h
brought_pop (round.PushClaimed p) h = absurd h
brought_pop round.Pop h = refl
brought_pop (round.PopRead p) h = refl
brought_pop (round.PopReady p) h = refl
brought_pop (round.PopGrabbed p) h = absurd h
brought_pop (round.PopFronted p) h = absurd h
