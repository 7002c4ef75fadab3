-- What the calls of an outlet promise, over its own relation `did` (which events its actor made, how many overrun items and how
-- many discarded posts it counted) and its own condition `fit`.
use Rattle.std.specs.Prelude.{◌≡◌, ◌≢◌, ◌<◌, ℕ, List, [], ◌∷◌, ◌++◌, Option, None, IsSome, Result, IfOk}
use Rattle.alog_core.specs.Queue as queue
use Rattle.alog_core.specs.Queue.{Event, Grab, Take}
use Rattle.alog_ring.specs.declared.push.PushError.{PushError}
use Rattle.alog_ring.specs.declared.push.PushError.TheVariants.{Full, Busy, Spent}
use Rattle.alog_ring.specs.declared.pop.PopError.{PopError}
use Rattle.alog_ring.specs.declared.pop.PopError.TheVariants as pop
use Rattle.alog_policy.specs.Post.{IsPost, Part, takes_in, overran_in, discards_in}
use Rattle.alog_policy.specs.Progress.{IsFresh, IsSoFar, IsKept, Agrees, without_waiting, work}
use Rattle.alog_policy.specs.declared.policy.Policy.{Policy}
use Rattle.alog_policy.specs.declared.policy.Policy.TheVariants.{Block}
use Rattle.alog_policy.specs.declared.policy.Why.TheVariants as why
use Rattle.alog_policy.specs.declared.policy.Outcome.{Outcome}
use Rattle.alog_policy.specs.declared.policy.Outcome.TheVariants.{Posted, Discarded}
use Rattle.alog_policy.specs.declared.progress.Progress.{Progress}
use Rattle.alog_policy.specs.declared.progress.Lost.{Lost}

-- what an outlet did between two states
abbrev pub Doing : Type 0 → Type 0 → Type 1
Doing S T = S → List (Event T) → ℕ → ℕ → S → Type 0

module _ {S T : Type 0} (did : Doing S T) (fit : S → Type 0) where
  -- these events, which refused the call, and nothing else
  abbrev pub Refused : S → List (Event T) → S → Type 0
  Refused old es new = did old es 0 0 new × fit new

  -- a push that was refused hands back what it was given: nothing, where the value stays in a hand
  abbrev pub PushRefused : {V : Type 0} → S → V → PushError V → S → Type 0
  PushRefused old v (Full back next) new = (back ≡ v) × Refused old (queue.Full next ∷ []) new
  PushRefused old v (Busy back seen) new = (back ≡ v) × Refused old (queue.PushBusy seen ∷ []) new
  PushRefused old v (Spent back) new = (back ≡ v) × Refused old (queue.Spent ∷ []) new

  -- a pop took the oldest item out, which was counted as one loss
  abbrev pub Overran : S → ℕ → S → Type 0
  Overran old t new = ((y : T) × did old (Grab t ∷ Take t y ∷ []) 1 0 new) × fit new

  -- a pop that took nothing: it found the front unwritten, and then that its ticket was claimed, or that none was there; or
  -- another pop was faster
  abbrev pub PopRefused : S → PopError → S → Type 0
  PopRefused old (pop.Empty next) new = Refused old (queue.Front next ∷ queue.Empty next ∷ []) new
  PopRefused old (pop.Idle next) new = Refused old (queue.Front next ∷ queue.Idle next ∷ []) new
  PopRefused old (pop.Busy seen) new = Refused old (queue.PopBusy seen ∷ []) new

-- A post: the outlet's events were one post under this policy by the definition, which brought v, of which a cell shows x, and
-- the outlet counted its losses.
pub record Posts {S T V : Type 0} (did : Doing S T) (p : Policy) (x : T) (v : V) (old new : S)
    (outcome : Outcome V) : Type 0 where
  pub events : List (Event T)
  pub post : IsPost p x v events outcome
  pub done : did old events (overran_in outcome) (discards_in outcome) new

-- a post that never waits
abbrev pub PostsNow : {S T V : Type 0} → Doing S T → Policy → T → V → S → S → Outcome V → Type 0
PostsNow did p x v old new outcome = Posts did (without_waiting p) x v old new outcome

-- what a post leaves in the hand that it took its value from
abbrev pub left_in : {V : Type 0} → Outcome (Unit {0}) → Option V → Option V
left_in (Posted t k) hand = None
left_in (Discarded u w k) hand = hand

-- the hand is empty where its value was posted, and has it elsewhere
abbrev pub IsLeft : {V : Type 0} → Outcome (Unit {0}) → Option V → Type 0
IsLeft (Posted t k) hand = hand ≡ None
IsLeft (Discarded u w k) hand = IsSome hand

-- the outcome of the post that brought this value, and hands it back if it is discarded
abbrev pub with_value : {V : Type 0} → V → Outcome (Unit {0}) → Outcome V
with_value v (Posted t k) = Posted t k
with_value v (Discarded u w k) = Discarded v w k

-- how a post ends that waits for room
abbrev pub IsPostedOrSpent : {V : Type 0} → Outcome V → Type 0
IsPostedOrSpent (Posted t k) = Unit {0}
IsPostedOrSpent (Discarded v w k) = w ≡ why.Spent

-- A push or a pop of a post that did not end it in the queue: the outlet made events by which whatever the post was so far goes
-- on so, or is lost so.
pub record Leads {S T V : Type 0} (did : Doing S T) (fit : S → Type 0) (x : T) (v : V) (g : Progress) (old new : S)
    (next : Result Progress Lost) : Type 0 where
  pub made : List (Event T)
  pub done : did old made (takes_in made) 0 new
  pub ready : fit new
  pub kept : IfOk next IsKept
  pub less : g.policy ≢ Block → IfOk next (λ h. work h < work g)
  pub agrees : (b : Part) (es : List (Event T)) → IsFresh g.side b → IsSoFar g x b es
      → Agrees g.policy x v (es ++ made) next
