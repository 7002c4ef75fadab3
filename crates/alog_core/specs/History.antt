-- Histories of a queue: who did what, in the one order in which the steps were made.
use Rattle.std.specs.Prelude.{◌≡◌, ℕ, ◌==◌, ◌≤◌, if◌then◌else◌, Option, None, Some, List, [], ◌∷◌, ◌++◌, length}
use Rattle.alog_core.specs.Queue.{Queue, Event, Front, Empty, Idle, Allows, after, start, IsSound}

-- An event and the actor who made it. No definition reads the note.
pub record Entry (T : Type 0) (N : Type 0) : Type 0 where
  pub actor : ℕ
  pub event : Event T
  pub note : N

-- the queue that a history leaves
abbrev pub left_by : {T N : Type 0} → Queue T → List (Entry T N) → Queue T
left_by q [] = q
left_by q (x ∷ h) = left_by (after q x.actor x.event) h

-- each event is allowed in the queue that those before it leave
abbrev pub IsLegalFrom : {T N : Type 0} → ℕ → Queue T → List (Entry T N) → Type 0
IsLegalFrom n q [] = Unit {0}
IsLegalFrom n q (x ∷ h) = Allows n q x.actor x.event × IsLegalFrom n (after q x.actor x.event) h

-- an actor's own entries
abbrev pub own_of : {T N : Type 0} → ℕ → List (Entry T N) → List (Entry T N)
own_of a [] = []
own_of a (x ∷ h) = if x.actor == a then x ∷ own_of a h else own_of a h

-- the last event of entries, or what was before them
abbrev pub last_event : {T N : Type 0} → Option (Event T) → List (Entry T N) → Option (Event T)
last_event o [] = o
last_event o (x ∷ h) = last_event (Some x.event) h

-- the last event of an actor's own, if it made one
abbrev pub latest : {T N : Type 0} → ℕ → List (Entry T N) → Option (Event T)
latest a h = last_event None (own_of a h)

-- Who says that a queue is empty, or idle, found its front unwritten, and did nothing since. Other events come after any.
abbrev pub Follows : {T : Type 0} → Option (Event T) → Event T → Type 0
Follows o (Empty t) = o ≡ Some (Front t)
Follows o (Idle t) = o ≡ Some (Front t)
Follows o e = Unit {0}

-- each event follows what its actor did before it
abbrev pub AllFollow : {T N : Type 0} → List (Entry T N) → List (Entry T N) → Type 0
AllFollow before [] = Unit {0}
AllFollow before (x ∷ h) = Follows (latest x.actor before) x.event × AllFollow (before ++ x ∷ []) h

-- a legal history of a queue of n places with first ticket f
abbrev pub IsLegal : {T N : Type 0} → ℕ → ℕ → List (Entry T N) → Type 0
IsLegal n f h = IsLegalFrom n (start f) h × AllFollow [] h

-- the queue is what this history leaves, and the history is legal
pub record StandsFor {T N : Type 0} (n f : ℕ) (h : List (Entry T N)) (q : Queue T) : Type 0 where
  pub legal : IsLegal n f h
  pub queue : left_by (start f) h ≡ q

-- Each queue of n places that a legal history leaves has the facts of `IsSound`, and so at most n cells.
abbrev pub ReachedStatesAreSound : Type 0 → Type 0 → Type 0
ReachedStatesAreSound T N = (n f : ℕ) (h : List (Entry T N)) → 1 ≤ n → IsLegal n f h → IsSound n (left_by (start f) h)
    × (length (left_by (start f) h).cells ≤ n)
