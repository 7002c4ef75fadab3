-- What the callers of a system did, call by call, and what follows from that list alone. Nothing here is of how a system is made.
use Rattle.std.specs.Prelude.{ℕ, ℤ, nat_lt, ◌==◌, Bool, if◌then◌else◌, Option, None, Some, List, [], ◌∷◌, ◌++◌, map, slice_get, slice_set, unwrap_or}
use Rattle.std.specs.List.{flat_map}
use Rattle.alog_msg.specs.Level.{row_of}
use Rattle.alog_msg.specs.declared.item.Item.{Item}
use Rattle.alog_msg.specs.declared.item.Item.TheVariants as item
use Rattle.alog_msg.specs.declared.level.Level.{Level}
use Rattle.alog_msg.specs.declared.level.Level.TheVariants.{Off}
use Rattle.alog_msg.specs.declared.message.Message.{Message}
use Rattle.alog_policy.specs.Runs.{StepMade}
use Rattle.alog_policy.specs.declared.policy.Policy.{Policy}
use Rattle.alog_policy.specs.declared.policy.Policy.TheVariants.{Block}
use Rattle.alog_registry.specs.Backtrace.{last_of}
use Rattle.alog_registry.specs.Listed.{spec_at}
use Rattle.alog_registry.specs.Work.{turns_of}
use Rattle.alog_registry.specs.declared.logger.Logger.{Logger}
use Rattle.alog_registry.specs.declared.logger.Spec.{Spec}
use Rattle.alog_registry.specs.declared.work.SinkDeed.{SinkDeed}
use Rattle.alog_registry.specs.declared.work.SinkDeed.TheVariants as sink_deed
use Rattle.alog_registry.specs.declared.work.SinkTurn.{SinkTurn}
use Rattle.alog_system.specs.declared.deed.Deed.{Deed}
use Rattle.alog_system.specs.declared.stepped.Stepped.{Stepped}

-- What a step was: a step of the queue; a turn on a sink, at the item of a work; a message that its logger kept; or what a
-- logger kept, which was taken for a dump at this time and by this thread.
pub data Did : Type 0 where
  InQueue : (step : StepMade Item) → Did
  OnSink : (turn : SinkTurn) (item : Item) → Did
  Keeping : (message : Message) → Did
  Emptying : (logger : ℕ) (time : ℤ) (thread : ℕ) → Did
  Nothing : Did

-- one step: its actor, what it was, and what it answered
pub record Made : Type 0 where
  pub actor : ℕ
  pub did : Did
  pub told : Stepped

-- A call that was not refused: an actor began a deed or made a step, or the level of a logger was set.
pub data Act : Type 0 where
  BeginsDeed : (actor : ℕ) (deed : Deed) → Act
  MakesStep : (made : Made) → Act
  SetsLevel : (logger : ℕ) (level : Level) → Act

-- the steps among some acts, in order
abbrev pub step_in : Act → List Made
step_in (BeginsDeed a d) = []
step_in (MakesStep m) = m ∷ []
step_in (SetsLevel n level) = []

abbrev pub steps_in : List Act → List Made
steps_in run = flat_map step_in run

-- what each act brings, which may depend on those before it, in order
abbrev pub along : {X : Type 0} → (List Act → Act → List X) → List Act → List Act → List X
along f before [] = []
along f before (x ∷ run) = f before x ++ along f (before ++ x ∷ []) run

-- the steps of the queue, in the order in which they were made
abbrev pub in_queue : Did → List (StepMade Item)
in_queue (InQueue step) = step ∷ []
in_queue (OnSink turn i) = []
in_queue (Keeping m) = []
in_queue (Emptying n time thread) = []
in_queue Nothing = []

abbrev pub queue_steps : List Made → List (StepMade Item)
queue_steps [] = []
queue_steps (m ∷ ms) = in_queue m.did ++ queue_steps ms

-- the messages that a sink was given, in order: those of the turns that take a text
abbrev pub text_in : SinkDeed → Item → List Message
text_in sink_deed.Take (item.Text m) = m ∷ []
text_in sink_deed.Take (item.Flush n) = []
text_in sink_deed.Take item.Stop = []
text_in sink_deed.Flush i = []

abbrev pub given_in : ℕ → Did → List Message
given_in k (InQueue step) = []
given_in k (OnSink turn i) = if turn.sink == k then text_in turn.deed i else []
given_in k (Keeping m) = []
given_in k (Emptying n time thread) = []
given_in k Nothing = []

abbrev pub given_to : ℕ → List Made → List Message
given_to k [] = []
given_to k (m ∷ ms) = given_in k m.did ++ given_to k ms

-- what a logger was given to keep since the start or since it was last emptied, in order
abbrev pub kept_by : ℕ → List Message → Did → List Message
kept_by n before (InQueue step) = before
kept_by n before (OnSink turn i) = before
kept_by n before (Keeping m) = if m.logger == n then before ++ m ∷ [] else before
kept_by n before (Emptying l time thread) = if l == n then [] else before
kept_by n before Nothing = before

abbrev pub kept_since : ℕ → List Message → List Made → List Message
kept_since n before [] = before
kept_since n before (m ∷ ms) = kept_since n (kept_by n before m.did) ms

-- what a logger's spec says: its policy, how many messages it keeps at most, and the turns of an item that was taken
abbrev pub policy_in : Option Spec → Policy
policy_in None = Block
policy_in (Some spec) = spec.policy

abbrev pub backtrace_in : Option Spec → ℕ
backtrace_in None = 0
backtrace_in (Some spec) = spec.backtrace

abbrev pub turns_by : Option Spec → ℕ → Item → List SinkTurn
turns_by None ticket i = []
turns_by (Some spec) ticket i = turns_of spec ticket i

-- the number of an item's logger
abbrev pub logger_of : Item → ℕ
logger_of (item.Text m) = m.logger
logger_of (item.Flush n) = n
logger_of item.Stop = 0

-- the levels after some acts: those of the loggers' specs, each until it was set
abbrev pub first_level : Logger → Level
first_level l = l.spec.level

abbrev pub levels_set : List Level → List Act → List Level
levels_set levels [] = levels
levels_set levels (BeginsDeed a d ∷ run) = levels_set levels run
levels_set levels (MakesStep m ∷ run) = levels_set levels run
levels_set levels (SetsLevel n level ∷ run) = levels_set (slice_set levels n level) run

module _ (loggers : List Logger) where
  abbrev pub policy : ℕ → Policy
  policy n = policy_in (spec_at loggers n)

  abbrev pub most : ℕ → ℕ
  most n = backtrace_in (spec_at loggers n)

  abbrev pub levels_after : List Act → List Level
  levels_after run = levels_set (map first_level loggers) run

  abbrev pub level_after : List Act → ℕ → Level
  level_after run n = unwrap_or (slice_get (levels_after run) n) Off

  -- what a logger keeps after some acts
  abbrev pub kept_after : List Act → ℕ → List Message
  kept_after run n = last_of (most n) (kept_since n [] (steps_in run))

-- a logger of one level filters a log of another
abbrev pub is_below : Level → Level → Bool
is_below level own = nat_lt (row_of level).number (row_of own).number
