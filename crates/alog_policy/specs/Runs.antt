-- A whole run of a desk: its calls one after another, as each one's contract tells what it did.
use Rattle.std.specs.Prelude.{◌≡◌, ◌==◌, ℕ, ◌+◌, ◌<◌, true, false, if◌then◌else◌, Option, None, Some, List, [], ◌∷◌, ◌++◌}
use Rattle.alog_core.specs.Queue.{Event, Claim, Write, Grab, Take, Full, Front, Empty, Idle, PushBusy, PopBusy, Spent, last}
use Rattle.alog_core.specs.History.{Entry}
use Rattle.alog_core.specs.Run.{LeadsTo}
use Rattle.alog_core.specs.World.{round_of, is_idle, is_size, next_move, entries_of}
use Rattle.alog_core.specs.declared.TheConstants.{ACTORS}
use Rattle.alog_core.specs.declared.round.Round.{Round}
use Rattle.alog_core.specs.declared.round.Round.TheVariants as round
use Rattle.alog_policy.specs.Post.{IsPost, Part, takes_in, discards_in}
use Rattle.alog_policy.specs.Progress.{IsSoFar}
use Rattle.alog_policy.specs.Desk.{DeskView, fresh_desk, post_of, call_began, post_began, desk_told, desk_stepped, event_of, IsAt}
use Rattle.alog_policy.specs.DeskOutlet.{with_losses}
use Rattle.alog_policy.specs.declared.policy.Policy.{Policy}
use Rattle.alog_policy.specs.declared.policy.Outcome.{Outcome}
use Rattle.alog_policy.specs.declared.post.Post.{Post}

-- A call that an actor begins.
pub data Call (T : Type 0) : Type 0 where
  ToPush : (item : T) → Call T
  ToPop : Call T
  ToPost : (policy : Policy) (value : T) → Call T

-- a call that was begun, and by whom
pub record CallMade (T : Type 0) : Type 0 where
  pub actor : ℕ
  pub call : Call T

abbrev pub called : {T : Type 0} → ℕ → Call T → CallMade T
called a c = record { actor = a; call = c }

-- What one step was: its actor, its event if it was one, whether the actor was in a post, and how that ended if it did.
pub record StepMade (T : Type 0) : Type 0 where
  pub actor : ℕ
  pub event : Option (Event T)
  pub overran : ℕ
  pub outcome : Option (Outcome T)

-- how many items a step overran: one for a take in a post, none in a pop
abbrev pub overruns_in : {T : Type 0} → Option (Post T) → Option (Event T) → ℕ
overruns_in None o = 0
overruns_in (Some p) o = takes_in (event_of o)

-- the next step of an actor
abbrev pub step_of : {T : Type 0} → DeskView T → ℕ → StepMade T
step_of d a =
    record {
      actor = a;
      event = (next_move d.world a).event;
      overran = overruns_in (post_of d a) (next_move d.world a).event;
      outcome = (desk_told d a).outcome;
    }

-- Calls that were not refused lead from one desk to another: these were begun, and these steps made. (A refused call changes
-- nothing.)
pub data Plays {T : Type 0} (d : DeskView T) : List (CallMade T) → List (StepMade T) → DeskView T → Type 0 where
  starts : Plays d [] [] d
  pushes : {calls : List (CallMade T)} {steps : List (StepMade T)} {e : DeskView T} (a : ℕ) (x : T) → Plays d calls steps e
      → a < ACTORS → is_idle (round_of e.world a) ≡ true
      → Plays d (calls ++ called a (ToPush x) ∷ []) steps (call_began e a (round.Push x))
  pops : {calls : List (CallMade T)} {steps : List (StepMade T)} {e : DeskView T} (a : ℕ) → Plays d calls steps e → a < ACTORS
      → is_idle (round_of e.world a) ≡ true → Plays d (calls ++ called a ToPop ∷ []) steps (call_began e a round.Pop)
  posts : {calls : List (CallMade T)} {steps : List (StepMade T)} {e : DeskView T} (a : ℕ) (p : Policy) (x : T)
      → Plays d calls steps e → a < ACTORS → is_idle (round_of e.world a) ≡ true
      → Plays d (calls ++ called a (ToPost p x) ∷ []) steps (post_began e a p x)
  steps_on : {calls : List (CallMade T)} {steps : List (StepMade T)} {e : DeskView T} (a : ℕ) → Plays d calls steps e
      → a < ACTORS → is_idle (round_of e.world a) ≡ false → Plays d calls (steps ++ step_of e a ∷ []) (desk_stepped e a)

-- the entries of the steps, in the order in which they were made
abbrev pub entries_made : {T : Type 0} → List (StepMade T) → List (Entry T (Unit {0}))
entries_made [] = []
entries_made (s ∷ ss) = entries_of s.actor tt s.event ++ entries_made ss

-- an actor's own calls, in the order in which they were begun
abbrev pub calls_made : {T : Type 0} → ℕ → List (CallMade T) → List (Call T)
calls_made a [] = []
calls_made a (c ∷ cs) = (if c.actor == a then c.call ∷ [] else []) ++ calls_made a cs

-- an actor's own events, and the outcomes of its posts
abbrev pub events_made : {T : Type 0} → ℕ → List (StepMade T) → List (Event T)
events_made a [] = []
events_made a (s ∷ ss) = (if s.actor == a then event_of s.event else []) ++ events_made a ss

abbrev pub outcome_in : {T : Type 0} → Option (Outcome T) → List (Outcome T)
outcome_in None = []
outcome_in (Some o) = o ∷ []

abbrev pub outcomes_made : {T : Type 0} → ℕ → List (StepMade T) → List (Outcome T)
outcomes_made a [] = []
outcomes_made a (s ∷ ss) = (if s.actor == a then outcome_in s.outcome else []) ++ outcomes_made a ss

-- the losses: what posts overran, and the posts that ended discarded
abbrev pub overruns_made : {T : Type 0} → List (StepMade T) → ℕ
overruns_made [] = 0
overruns_made (s ∷ ss) = s.overran + overruns_made ss

abbrev pub discards_of : {T : Type 0} → Option (Outcome T) → ℕ
discards_of None = 0
discards_of (Some o) = discards_in o

abbrev pub discards_made : {T : Type 0} → List (StepMade T) → ℕ
discards_made [] = 0
discards_made (s ∷ ss) = discards_of s.outcome + discards_made ss

-- the events of a whole push of x, and of a whole pop
pub data IsPush {T : Type 0} (x : T) (made : List (Event T)) : Type 0 where
  wrote : (t : ℕ) → made ≡ Claim t x ∷ Write t ∷ [] → IsPush x made
  found_full : (t : ℕ) → made ≡ Full t ∷ [] → IsPush x made
  was_busy : (t : ℕ) → made ≡ PushBusy t ∷ [] → IsPush x made
  was_spent : made ≡ Spent ∷ [] → IsPush x made

pub data IsPop {T : Type 0} (made : List (Event T)) : Type 0 where
  took : (t : ℕ) (y : T) → made ≡ Grab t ∷ Take t y ∷ [] → IsPop made
  found_empty : (t : ℕ) → made ≡ Front t ∷ Empty t ∷ [] → IsPop made
  found_idle : (t : ℕ) → made ≡ Front t ∷ Idle t ∷ [] → IsPop made
  was_busy : (t : ℕ) → made ≡ PopBusy t ∷ [] → IsPop made

-- These calls were made whole, one after another: these are their events, each push and each post of the item, and under the
-- policy, that it was begun with, and these the outcomes of the posts.
pub data AreWhole {T : Type 0} : List (Call T) → List (Event T) → List (Outcome T) → Type 0 where
  no_call : AreWhole [] [] []
  and_push : {cs : List (Call T)} {es : List (Event T)} {os : List (Outcome T)} (x : T) (made : List (Event T))
      → AreWhole cs es os → IsPush x made → AreWhole (cs ++ ToPush x ∷ []) (es ++ made) os
  and_pop : {cs : List (Call T)} {es : List (Event T)} {os : List (Outcome T)} (made : List (Event T)) → AreWhole cs es os
      → IsPop made → AreWhole (cs ++ ToPop ∷ []) (es ++ made) os
  and_post : {cs : List (Call T)} {es : List (Event T)} {os : List (Outcome T)} (p : Policy) (x : T) (made : List (Event T))
      (o : Outcome T) → AreWhole cs es os → IsPost p x x made o → AreWhole (cs ++ ToPost p x ∷ []) (es ++ made) (os ++ o ∷ [])

-- the one push or pop that an actor is in, if it is in one, and its events so far
abbrev pub IsBegun : {T : Type 0} → Round T → List (Call T) → List (Event T) → Type 0
IsBegun round.Idle cs es = (cs ≡ []) × (es ≡ [])
IsBegun (round.Push y) cs es = (cs ≡ ToPush y ∷ []) × (es ≡ [])
IsBegun (round.PushRead t y) cs es = (cs ≡ ToPush y ∷ []) × (es ≡ [])
IsBegun (round.PushFree t y) cs es = (cs ≡ ToPush y ∷ []) × (es ≡ [])
IsBegun {T} (round.PushClaimed t) cs es = (x : T) × (cs ≡ ToPush x ∷ []) × (es ≡ Claim t x ∷ [])
IsBegun round.Pop cs es = (cs ≡ ToPop ∷ []) × (es ≡ [])
IsBegun (round.PopRead t) cs es = (cs ≡ ToPop ∷ []) × (es ≡ [])
IsBegun (round.PopReady t) cs es = (cs ≡ ToPop ∷ []) × (es ≡ [])
IsBegun (round.PopGrabbed t) cs es = (cs ≡ ToPop ∷ []) × (es ≡ Grab t ∷ [])
IsBegun (round.PopFronted t) cs es = (cs ≡ ToPop ∷ []) × (es ≡ Front t ∷ [])

-- the one call that the actor is in, a post, a push or a pop, if it is in one, and its events so far
abbrev pub IsUnderWayIn : {T : Type 0} → Option (Post T) → Round T → List (Call T) → List (Event T) → Type 0
IsUnderWayIn None r cs es = IsBegun r cs es
IsUnderWayIn {T} (Some p) r cs es =
    (x : T) × (b : Part) × IsAt x p.hand p.progress.side r b × IsSoFar p.progress x b es
    × (cs ≡ ToPost p.progress.policy x ∷ [])

-- An actor's own calls and events are cut into the whole ones and the one that it is in.
pub record IsCut {T : Type 0} (post : Option (Post T)) (r : Round T) (cs : List (Call T)) (es : List (Event T))
    (os : List (Outcome T)) : Type 0 where
  pub ended : List (Call T)
  pub current : List (Call T)
  pub order : cs ≡ ended ++ current
  pub whole : List (Event T)
  pub rest : List (Event T)
  pub cut : es ≡ whole ++ rest
  pub calls : AreWhole ended whole os
  pub begun : IsUnderWayIn post r current rest

-- What a run from a new desk is: its entries are a legal history that leads to its machine; each actor's own calls and events
-- are cut into whole pushes, pops and posts by the definition, with the items, policies and outcomes of its calls, and the one
-- that it is in; and the counts are the losses, modulo 2^64.
pub record IsRun {T : Type 0} (n f : ℕ) (calls : List (CallMade T)) (steps : List (StepMade T)) (e : DeskView T) : Type 0 where
  pub places : e.world.places ≡ n
  pub history : LeadsTo f (entries_made steps) e.world
  pub actors : (a : ℕ) → a < ACTORS
      → IsCut (post_of e a) (round_of e.world a) (calls_made a calls) (events_made a steps) (outcomes_made a steps)
  pub counts : e.counts ≡ with_losses (record { overrun = 0; discarded = 0 }) (overruns_made steps) (discards_made steps)

abbrev pub RunsAreCut : Type 0 → Type 0
RunsAreCut T = (n f : ℕ) (calls : List (CallMade T)) (steps : List (StepMade T)) (e : DeskView T) → is_size n ≡ true → f < last
    → Plays (fresh_desk n f) calls steps e → IsRun n f calls steps e
