-- Histories taken from the back, and the facts of the queues that legal ones leave.
use Rattle.std.proofs.Common.{◌≡◌, ◌≢◌, ℕ, ◌≤◌, cond, Option, None, Some, List, [], ◌∷◌, ◌++◌, refl, sym, ap, subst, ◌∙◌}
use Rattle.std.proofs.Common.{append_assoc}
use Rattle.std.proofs.lemmas.List.{append-nil}
use Rattle.alog_core.specs.Queue.{Queue, Event, start, after, Allows, IsSound}
use Rattle.alog_core.specs.Round.{after_event}
use Rattle.alog_core.specs.World.{entries_of}
use Rattle.alog_core.specs.History.{Entry, left_by, IsLegalFrom, IsLegal, own_of, last_event, latest, Follows, AllFollow, StandsFor}
use Rattle.alog_core.specs.History.{ReachedStatesAreSound}
use Rattle.alog_core.proofs.SharedCells.{on_test, at_same, at_other}
use Rattle.alog_core.proofs.SharedSound.{sound_start, sound_after, length-sound}

-- what two histories leave, one after the other
pub left_by-append : {T N : Type 0} (q : Queue T) (h g : List (Entry T N)) → left_by q (h ++ g) ≡ left_by (left_by q h) g
left_by-append q [] g = refl
left_by-append q (x ∷ h) g = left_by-append (after q x.actor x.event) h g

-- legal one after the other, taken together and apart
pub legal-append : {T N : Type 0} (n : ℕ) (q : Queue T) (h g : List (Entry T N)) → IsLegalFrom n q h
    → IsLegalFrom n (left_by q h) g → IsLegalFrom n q (h ++ g)
legal-append n q [] g first second = second
legal-append n q (x ∷ h) g first second = (first.0, legal-append n (after q x.actor x.event) h g first.1 second)

pub legal_first : {T N : Type 0} (n : ℕ) (q : Queue T) (h g : List (Entry T N)) → IsLegalFrom n q (h ++ g)
    → IsLegalFrom n q h
legal_first n q [] g both = tt
legal_first n q (x ∷ h) g both = (both.0, legal_first n (after q x.actor x.event) h g both.1)

pub legal_second : {T N : Type 0} (n : ℕ) (q : Queue T) (h g : List (Entry T N)) → IsLegalFrom n q (h ++ g)
    → IsLegalFrom n (left_by q h) g
legal_second n q [] g both = both
legal_second n q (x ∷ h) g both = legal_second n (after q x.actor x.event) h g both.1

-- events that follow what their actors did, taken together and apart
follow-append : {T N : Type 0} (before h g : List (Entry T N)) → AllFollow before h → AllFollow (before ++ h) g
    → AllFollow before (h ++ g)
follow-append {T} {N} before [] g first second =
    subst (λ (b : List (Entry T N)). AllFollow b g) (append-nil before) second
follow-append {T} {N} before (x ∷ h) g first second = (
  first.0,
  follow-append (before ++ x ∷ []) h g first.1
      (subst (λ (b : List (Entry T N)). AllFollow b g) (sym (append_assoc before (x ∷ []) h)) second),
)

follow_first : {T N : Type 0} (before h g : List (Entry T N)) → AllFollow before (h ++ g) → AllFollow before h
follow_first before [] g both = tt
follow_first before (x ∷ h) g both = (both.0, follow_first (before ++ x ∷ []) h g both.1)

-- The last entry of a legal history: it is allowed in the queue that those before it leave. These three open `IsLegal`.
pub legal_with : {T N : Type 0} (n f : ℕ) (h : List (Entry T N)) (x : Entry T N) → IsLegal n f h
    → Allows n (left_by (start f) h) x.actor x.event → Follows (latest x.actor h) x.event → IsLegal n f (h ++ x ∷ [])
legal_with n f h x legal may follows =
    (legal-append n (start f) h (x ∷ []) legal.0 (may, tt), follow-append [] h (x ∷ []) legal.1 (follows, tt))

pub legal_before : {T N : Type 0} (n f : ℕ) (h g : List (Entry T N)) → IsLegal n f (h ++ g) → IsLegal n f h
legal_before n f h g legal = (legal_first n (start f) h g legal.0, follow_first [] h g legal.1)

pub last_is_allowed : {T N : Type 0} (n f : ℕ) (h : List (Entry T N)) (x : Entry T N) → IsLegal n f (h ++ x ∷ [])
    → Allows n (left_by (start f) h) x.actor x.event
last_is_allowed n f h x legal = (legal_second n (start f) h (x ∷ []) legal.0).0

-- a step of a queue that stands for a history
pub stands_start : {T N : Type 0} (n f : ℕ) → StandsFor {T = T} {N = N} n f [] (start f)
stands_start n f = record { legal = (tt, tt); queue = refl }

pub stands_after : {T N : Type 0} (n f : ℕ) (h : List (Entry T N)) (q : Queue T) (x : Entry T N) → StandsFor n f h q
    → Allows n q x.actor x.event → Follows (latest x.actor h) x.event → StandsFor n f (h ++ x ∷ []) (after q x.actor x.event)
stands_after {T} {N} n f h q x stands may follows =
    let P : Queue T → Type 0 = λ p. Allows n p x.actor x.event
    in record {
      legal = legal_with n f h x stands.legal (subst P (sym stands.queue) may) follows;
      queue = left_by-append (start f) h (x ∷ []) ∙ ap (λ (p : Queue T). after p x.actor x.event) stands.queue;
    }

-- an actor's own entries in two histories
pub own_of-append : {T N : Type 0} (a : ℕ) (h g : List (Entry T N)) → own_of a (h ++ g) ≡ own_of a h ++ own_of a g
own_of-append a [] g = refl
own_of-append a (x ∷ h) g =
    on_test
    (λ b. cond b (x ∷ own_of a (h ++ g)) (own_of a (h ++ g)) ≡ cond b (x ∷ own_of a h) (own_of a h) ++ own_of a g)
    x.actor
    a
    (λ _. ap (λ r. x ∷ r) (own_of-append a h g))
    (λ _. own_of-append a h g)

last_event-append : {T N : Type 0} (o : Option (Event T)) (h : List (Entry T N)) (x : Entry T N)
    → last_event o (h ++ x ∷ []) ≡ Some x.event
last_event-append o [] x = refl
last_event-append o (y ∷ h) x = last_event-append (Some y.event) h x

-- the last event of an actor, after one of its own and after another's
pub latest_own : {T N : Type 0} (a : ℕ) (h : List (Entry T N)) (x : Entry T N) → x.actor ≡ a
    → latest a (h ++ x ∷ []) ≡ Some x.event
latest_own a h x is =
    ap (λ g. last_event None g)
    (own_of-append a h (x ∷ []) ∙ ap (λ g. own_of a h ++ g) (at_same x.actor a (x ∷ []) [] is))
    ∙ last_event-append None (own_of a h) x

pub latest_other : {T N : Type 0} (a : ℕ) (h : List (Entry T N)) (x : Entry T N) → x.actor ≢ a
    → latest a (h ++ x ∷ []) ≡ latest a h
latest_other a h x other =
    ap (λ g. last_event None g)
    (own_of-append a h (x ∷ []) ∙ ap (λ g. own_of a h ++ g) (at_other x.actor a (x ∷ []) [] other) ∙ append-nil (own_of a h))

-- each legal history from a queue with the facts leaves one with the facts
pub sound_left : {T N : Type 0} (n : ℕ) (q : Queue T) (h : List (Entry T N)) → 1 ≤ n → IsSound n q → IsLegalFrom n q h
    → IsSound n (left_by q h)
sound_left n q [] some s legal = s
sound_left n q (x ∷ h) some s legal =
    sound_left n (after q x.actor x.event) h some (sound_after n q x.actor x.event some s legal.0) legal.1

-- the facts of every reached state
pub sound_by_history : {T N : Type 0} (n f : ℕ) (h : List (Entry T N)) → 1 ≤ n → IsLegal n f h
    → IsSound n (left_by (start f) h)
sound_by_history n f h some legal = sound_left n (start f) h some (sound_start n f) legal.0

pub stands_sound : {T N : Type 0} (n f : ℕ) (h : List (Entry T N)) (q : Queue T) → 1 ≤ n → StandsFor n f h q → IsSound n q
stands_sound {T} n f h q some stands =
    let P : Queue T → Type 0 = λ p. IsSound n p in subst P stands.queue (sound_by_history n f h some stands.legal)

pub reached_states_are_sound : (T N : Type 0) → ReachedStatesAreSound T N
reached_states_are_sound T N n f h some legal =
    let s : IsSound n (left_by (start f) h) = sound_by_history n f h some legal in
    (s, length-sound n (left_by (start f) h) s)

-- a history goes on with a step that is an event, and stays where it is none
pub stands_step : {T N : Type 0} {n f : ℕ} {h : List (Entry T N)} {q : Queue T} (a : ℕ) (note : N) {o : Option (Event T)}
    → StandsFor n f h q → ((e : Event T) → o ≡ Some e → Allows n q a e)
    → ((e : Event T) → o ≡ Some e → Follows (latest a h) e)
    → StandsFor n f (h ++ entries_of a note o) (after_event q a o)
stands_step {T} {N} {n} {f} {h} {q} a note {o = None} s may follows =
    subst (λ (g : List (Entry T N)). StandsFor n f g q) (sym (append-nil h)) s
stands_step {n} {f} {h} {q} a note {o = Some e} s may follows =
    stands_after n f h q (record { actor = a; event = e; note = note }) s (may e refl) (follows e refl)
