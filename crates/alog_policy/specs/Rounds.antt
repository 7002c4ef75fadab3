-- One round of a push or of a pop whose steps an actor makes all at once, and what it leaves.
use Rattle.std.specs.Prelude.{◌≡◌, ℕ, Option, None, Some, Result, Ok, Err, List, [], ◌∷◌, map}
use Rattle.alog_core.specs.Queue.{Event, Claim, Write, Grab, Take}
use Rattle.alog_core.specs.Queue as queue
use Rattle.alog_core.specs.History.{Entry}
use Rattle.alog_core.specs.Run.{GoesOn}
use Rattle.alog_core.specs.World.{Machine}
use Rattle.alog_core.specs.declared.said.Said.{Said}
use Rattle.alog_core.specs.declared.said.Said.TheVariants as said
use Rattle.alog_ring.specs.declared.push.PushError.{PushError}
use Rattle.alog_ring.specs.declared.push.PushError.TheVariants as push
use Rattle.alog_ring.specs.declared.pop.PopError.{PopError}
use Rattle.alog_ring.specs.declared.pop.PopError.TheVariants as pop

-- the events of an actor as entries of a history
abbrev pub entries_by : {T : Type 0} → ℕ → List (Event T) → List (Entry T (Unit {0}))
entries_by {T} a es = map (λ (e : Event T). let x : Entry T (Unit {0}) = record { actor = a; event = e; note = tt } in x) es

-- The actor made exactly these events, one after another, and stands in the same round as before, as all others do.
pub record Makes {T : Type 0} (a : ℕ) (old : Machine T) (es : List (Event T)) (new : Machine T) : Type 0 where
  pub places : new.places ≡ old.places
  pub rounds : new.rounds ≡ old.rounds
  pub history : GoesOn old (entries_by a es) new

-- A round of a push that was refused. Nobody else steps in it, so it never finds its ticket gone.
abbrev pub PushRoundRefused : {T : Type 0} → ℕ → Machine T → T → PushError T → Machine T → Type 0
PushRoundRefused a old x (push.Full back next) new = (back ≡ x) × Makes a old (queue.Full next ∷ []) new
PushRoundRefused a old x (push.Busy back seen) new = ⊥
PushRoundRefused a old x (push.Spent back) new = (back ≡ x) × Makes a old (queue.Spent ∷ []) new

-- a round of a pop that was refused
abbrev pub PopRoundRefused : {T : Type 0} → ℕ → Machine T → PopError → Machine T → Type 0
PopRoundRefused a old (pop.Empty next) new = Makes a old (queue.Front next ∷ queue.Empty next ∷ []) new
PopRoundRefused a old (pop.Idle next) new = Makes a old (queue.Front next ∷ queue.Idle next ∷ []) new
PopRoundRefused a old (pop.Busy seen) new = ⊥

-- what a step of a push may say, and of a pop
abbrev pub IsOfPush : {T : Type 0} → Said T → Type 0
IsOfPush said.Nothing = Unit {0}
IsOfPush (said.Claim t) = Unit {0}
IsOfPush (said.Write t) = Unit {0}
IsOfPush (said.Full t None) = ⊥
IsOfPush (said.Full t (Some x)) = Unit {0}
IsOfPush (said.Grab t) = ⊥
IsOfPush (said.Take t y) = ⊥
IsOfPush (said.Front t) = ⊥
IsOfPush (said.Empty t) = ⊥
IsOfPush (said.Idle t) = ⊥
IsOfPush (said.Busy t None) = ⊥
IsOfPush (said.Busy t (Some x)) = Unit {0}
IsOfPush (said.Spent None) = ⊥
IsOfPush (said.Spent (Some x)) = Unit {0}

abbrev pub IsOfPop : {T : Type 0} → Said T → Type 0
IsOfPop said.Nothing = Unit {0}
IsOfPop (said.Claim t) = ⊥
IsOfPop (said.Write t) = ⊥
IsOfPop (said.Full t x) = ⊥
IsOfPop (said.Grab t) = Unit {0}
IsOfPop (said.Take t y) = Unit {0}
IsOfPop (said.Front t) = Unit {0}
IsOfPop (said.Empty t) = Unit {0}
IsOfPop (said.Idle t) = Unit {0}
IsOfPop (said.Busy t x) = Unit {0}
IsOfPop (said.Spent x) = ⊥

-- the answer of the round, where that ends it
abbrev pub push_answer : {T : Type 0} → Said T → Option (Result ℕ (PushError T))
push_answer said.Nothing = None
push_answer (said.Claim t) = None
push_answer (said.Write t) = Some (Ok t)
push_answer (said.Full t None) = None
push_answer (said.Full t (Some x)) = Some (Err (push.Full x t))
push_answer (said.Grab t) = None
push_answer (said.Take t y) = None
push_answer (said.Front t) = None
push_answer (said.Empty t) = None
push_answer (said.Idle t) = None
push_answer (said.Busy t None) = None
push_answer (said.Busy t (Some x)) = Some (Err (push.Busy x t))
push_answer (said.Spent None) = None
push_answer (said.Spent (Some x)) = Some (Err (push.Spent x))

abbrev pub pop_answer : {T : Type 0} → Said T → Option (Result (ℕ × T) PopError)
pop_answer said.Nothing = None
pop_answer (said.Claim t) = None
pop_answer (said.Write t) = None
pop_answer (said.Full t x) = None
pop_answer (said.Grab t) = None
pop_answer (said.Take t y) = Some (Ok (t, y))
pop_answer (said.Front t) = None
pop_answer (said.Empty t) = Some (Err (pop.Empty t))
pop_answer (said.Idle t) = Some (Err (pop.Idle t))
pop_answer (said.Busy t x) = Some (Err (pop.Busy t))
pop_answer (said.Spent x) = None
