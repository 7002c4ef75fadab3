-- What a run adds to a history, what its replies tell, and what its steps find.
use Rattle.std.proofs.Common.{◌≡◌, ℕ, ◌<◌, ◌==◌, ◌&&◌, ◌||◌, not, ltb, cond, Bool, true, false, Option, None, Some, List, [], ◌∷◌}
use Rattle.std.proofs.Common.{refl, ap, subst, ◌∙◌}
use Rattle.std.specs.Option.{is_none}
use Rattle.alog_core.specs.Queue.{Cell, Queue, Claim, Full, Front, Empty, Idle, Grab, PushBusy, PopBusy, Spent, last, cell_of}
use Rattle.alog_core.specs.Round.{Move, move_of, makes, ends, goes_on, taking, is_blocked, is_claimed}
use Rattle.alog_core.specs.History.{Entry}
use Rattle.alog_core.specs.World.{Machine, round_of, is_idle, began, next_move, stepped, brought, said_of, told, entries_of}
use Rattle.alog_core.specs.World.{reply_to, after_call, replies_to, after_calls}
use Rattle.alog_core.specs.Run.{GoesOn, entries_of_step, entries_of_call, entries_of_run, Says, Tells, TellAll, HasItsCell, EachHasItsCell}
use Rattle.alog_core.specs.Staged.{IsStaged, IsReached}
use Rattle.alog_core.specs.declared.TheConstants.{ACTORS}
use Rattle.alog_core.specs.declared.round.Round.{Round}
use Rattle.alog_core.specs.declared.round.Round.TheVariants as round
use Rattle.alog_core.specs.declared.said.Call.{Call}
use Rattle.alog_core.specs.declared.said.Call.TheVariants as call
use Rattle.alog_core.specs.declared.said.Answer.TheVariants as answer
use Rattle.alog_core.proofs.SharedFronts.{goes_same, goes_began, goes_step, goes_further}
use Rattle.alog_core.proofs.Steps.{on_either, less_from_test}
use Rattle.alog_core.proofs.SharedReached.{reached_began, reached_stepped}

-- a test by its two cases, wherever it stands
on_result : (P : Bool → Type 0) (b : Bool) → (b ≡ true → P true) → (b ≡ false → P false) → P b
on_result P b held failed =
    let by : (v : Bool) → b ≡ v → P v = λ v. elim v as (λ w. b ≡ w → P w) [ true ↦ held | false ↦ failed ] in
    by b refl

-- calls lead from reached machines to reached ones
reached_call : {T : Type 0} (m : Machine T) (c : Call T) → IsReached m → IsReached (after_call m c)
reached_call {T} m (call.Push a x) h =
    on_result
    (λ b. IsReached (cond b (cond (is_idle (round_of m a)) (began m a (round.Push x)) m) m))
    (ltb a ACTORS)
    (λ lt. on_either IsReached (is_idle (round_of m a)) (began m a (round.Push x)) m
    (λ _. reached_began m a (round.Push x) h (less_from_test a ACTORS lt) tt) (λ _. h))
    (λ _. h)
reached_call {T} m (call.Pop a) h =
    on_result
    (λ b. IsReached (cond b (cond (is_idle (round_of m a)) (began m a round.Pop) m) m))
    (ltb a ACTORS)
    (λ lt. on_either IsReached (is_idle (round_of m a)) (began m a round.Pop) m
    (λ _. reached_began m a round.Pop h (less_from_test a ACTORS lt) tt) (λ _. h))
    (λ _. h)
reached_call {T} m (call.Step a) h =
    on_result
    (λ b. IsReached (cond b (cond (is_idle (round_of m a)) m (stepped m a)) m))
    (ltb a ACTORS)
    (λ lt. on_either IsReached (is_idle (round_of m a)) m (stepped m a) (λ _. h)
    (λ _. reached_stepped m a h (less_from_test a ACTORS lt)))
    (λ _. h)

pub reached_calls : {T : Type 0} (m : Machine T) (cs : List (Call T)) → IsReached m → IsReached (after_calls m cs)
reached_calls m [] h = h
reached_calls m (c ∷ cs) h = reached_calls (after_call m c) cs (reached_call m c h)

goes_call : {T : Type 0} (m : Machine T) (c : Call T) → IsReached m → GoesOn m (entries_of_call m c) (after_call m c)
goes_call {T} m (call.Push a x) h =
    on_result
    (λ b. GoesOn {N = Unit {0}} m [] (cond b (cond (is_idle (round_of m a)) (began m a (round.Push x)) m) m))
    (ltb a ACTORS)
    (λ lt. on_either (GoesOn m []) (is_idle (round_of m a)) (began m a (round.Push x)) m
    (λ _. goes_began m a (round.Push x) h.actors (less_from_test a ACTORS lt) (λ p is. cc)) (λ _. goes_same m))
    (λ _. goes_same m)
goes_call {T} m (call.Pop a) h =
    on_result
    (λ b. GoesOn {N = Unit {0}} m [] (cond b (cond (is_idle (round_of m a)) (began m a round.Pop) m) m))
    (ltb a ACTORS)
    (λ lt. on_either (GoesOn m []) (is_idle (round_of m a)) (began m a round.Pop) m
    (λ _. goes_began m a round.Pop h.actors (less_from_test a ACTORS lt) (λ p is. cc)) (λ _. goes_same m))
    (λ _. goes_same m)
goes_call {T} m (call.Step a) h =
    let made : List (Entry T (Unit {0})) = entries_of_step m a in
    let idle : Bool = is_idle (round_of m a) in
    on_result
    (λ b. GoesOn m (cond b (cond idle [] made) []) (cond b (cond idle m (stepped m a)) m))
    (ltb a ACTORS)
    (λ lt.
    on_result
    (λ b. GoesOn m (cond b [] made) (cond b m (stepped m a)))
    idle
    (λ _. goes_same m)
    (λ _. goes_step m a h (less_from_test a ACTORS lt)))
    (λ _. goes_same m)

-- calls leave the number of places
places_after_call : {T : Type 0} (m : Machine T) (c : Call T) → (after_call m c).places ≡ m.places
places_after_call {T} m (call.Push a x) =
    let P : Machine T → Type 0 = λ k. k.places ≡ m.places in
    on_either P (ltb a ACTORS) (cond (is_idle (round_of m a)) (began m a (round.Push x)) m) m
    (λ _. on_either P (is_idle (round_of m a)) (began m a (round.Push x)) m (λ _. refl) (λ _. refl)) (λ _. refl)
places_after_call {T} m (call.Pop a) =
    let P : Machine T → Type 0 = λ k. k.places ≡ m.places in
    on_either P (ltb a ACTORS) (cond (is_idle (round_of m a)) (began m a round.Pop) m) m
    (λ _. on_either P (is_idle (round_of m a)) (began m a round.Pop) m (λ _. refl) (λ _. refl)) (λ _. refl)
places_after_call {T} m (call.Step a) =
    let P : Machine T → Type 0 = λ k. k.places ≡ m.places in
    on_either P (ltb a ACTORS) (cond (is_idle (round_of m a)) m (stepped m a)) m
    (λ _. on_either P (is_idle (round_of m a)) m (stepped m a) (λ _. refl) (λ _. refl)) (λ _. refl)

pub places_after_calls : {T : Type 0} (m : Machine T) (cs : List (Call T)) → (after_calls m cs).places ≡ m.places
places_after_calls m [] = refl
places_after_calls m (c ∷ cs) = places_after_calls (after_call m c) cs ∙ places_after_call m c

-- each history goes on with the entries of the run
pub run_goes_on : {T : Type 0} (m : Machine T) (cs : List (Call T)) → IsReached m
    → GoesOn m (entries_of_run m cs) (after_calls m cs)
run_goes_on m [] h = goes_same m
run_goes_on m (c ∷ cs) h =
    goes_further m (after_call m c) (after_calls (after_call m c) cs) (entries_of_call m c) (entries_of_run (after_call m c) cs)
    (goes_call m c h) (run_goes_on (after_call m c) cs (reached_call m c h))

-- a step's answer says its event
abbrev SaysMove : {T : Type 0} → Option T → Move T → Type 0
SaysMove x m = Says (said_of x m.event) m.event

says_taking : {T : Type 0} (t : ℕ) (o : Option (Cell T)) → SaysMove None (taking t o)
says_taking t None = refl
says_taking t (Some c) = refl

says_move : {T : Type 0} (n : ℕ) (q : Queue T) (r : Round T) → SaysMove (brought r) (move_of n q r)
says_move n q round.Idle = refl
says_move n q (round.Push x) =
    on_either (SaysMove (Some x)) (q.next == last) (ends Spent) (goes_on (round.PushRead q.next x)) (λ _. refl) (λ _. refl)
says_move n q (round.PushRead p x) =
    let late : Bool = ltb p q.next && not (is_claimed (cell_of p q.cells)) in
    on_either (SaysMove (Some x)) (is_blocked n p q.cells) (ends (Full p))
    (cond late (ends (PushBusy p)) (goes_on (round.PushFree p x)))
    (λ _. refl)
    (λ _. on_either (SaysMove (Some x)) late (ends (PushBusy p)) (goes_on (round.PushFree p x)) (λ _. refl) (λ _. refl))
says_move n q (round.PushFree p x) =
    on_either (SaysMove (Some x)) (q.next == p) (makes (Claim p x) (round.PushClaimed p)) (ends (PushBusy p))
    (λ _. (x, refl)) (λ _. refl)
says_move n q (round.PushClaimed p) = refl
says_move n q round.Pop = refl
says_move {T} n q (round.PopRead p) =
    let none : Bool = p == q.front && (is_none (cell_of p q.cells) || is_claimed (cell_of p q.cells)) in
    let late : Bool = ltb p q.front && is_none (cell_of p q.cells) in
    on_either (SaysMove {T = T} None) none (makes (Front p) (round.PopFronted p)) (cond late (ends (PopBusy p)) (goes_on (round.PopReady p)))
    (λ _. refl)
    (λ _. on_either (SaysMove {T = T} None) late (ends (PopBusy p)) (goes_on (round.PopReady p)) (λ _. refl) (λ _. refl))
says_move {T} n q (round.PopReady p) =
    on_either (SaysMove {T = T} None) (q.front == p) (makes (Grab p) (round.PopGrabbed p)) (ends (PopBusy p)) (λ _. refl)
    (λ _. refl)
says_move n q (round.PopGrabbed p) = says_taking p (cell_of p q.cells)
says_move {T} n q (round.PopFronted p) =
    on_either (SaysMove {T = T} None) (q.next == p) (ends (Idle p)) (ends (Empty p)) (λ _. refl) (λ _. refl)

tells_call : {T : Type 0} (m : Machine T) (c : Call T) → Tells c (reply_to m c) (entries_of_call m c)
tells_call m (call.Push a x) = refl
tells_call m (call.Pop a) = refl
tells_call {T} m (call.Step a) =
    let made : List (Entry T (Unit {0})) = entries_of a tt (next_move m a).event in
    let idle : Bool = is_idle (round_of m a) in
    on_result
    (λ b. Tells (call.Step a) (cond b (cond idle (answer.Refused 8 None) (answer.Said (told m a))) (answer.Refused 6 None))
    (cond b (cond idle [] made) []))
    (ltb a ACTORS)
    (λ _.
    on_result
    (λ b. Tells (call.Step a) (cond b (answer.Refused 8 None) (answer.Said (told m a))) (cond b [] made))
    idle
    (λ _. refl)
    (λ _. ((next_move m a).event, says_move m.places m.queue (round_of m a), refl)))
    (λ _. refl)

-- the replies tell the entries of the run
pub tell_all : {T : Type 0} (m : Machine T) (cs : List (Call T)) → TellAll cs (replies_to m cs) (entries_of_run m cs)
tell_all m [] = refl
tell_all m (c ∷ cs) =
    (entries_of_call m c, entries_of_run (after_call m c) cs, refl, tells_call m c, tell_all (after_call m c) cs)

-- whoever got a ticket has its cell
pub has_its_cell : {T : Type 0} (m : Machine T) (a : ℕ) → IsReached m → a < ACTORS → HasItsCell m a
has_its_cell {T} m a h lt =
    let R : Round T → Type 0 = λ r. IsStaged m.places m.queue a r in
    record {
      writes = λ t e.
          let has : R (round.PushClaimed t) = subst R e (h.staged a lt) in
          (has.0, has.1, ap (λ (r : Round T). said_of (brought r) (move_of m.places m.queue r).event) e);
      takes = λ t e.
          let has : R (round.PopGrabbed t) = subst R e (h.staged a lt) in (
            has.0,
            has.1,
            ap (λ (r : Round T). said_of (brought r) (move_of m.places m.queue r).event) e
                ∙ ap (λ (o : Option (Cell T)). said_of None (taking t o).event) has.1,
          );
    }

pub each_has_its_cell : {T : Type 0} (m : Machine T) (cs : List (Call T)) → IsReached m → EachHasItsCell m cs
each_has_its_cell m cs h = λ before a later is lt. has_its_cell (after_calls m before) a (reached_calls m before h) lt
