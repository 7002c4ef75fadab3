-- A whole run of a system: its calls one after another, as each one's contract tells what it did, and what is true after them.
use Rattle.std.specs.Prelude.{◌≡◌, ◌≢◌, ◌⊎◌, ◌↔◌, ℕ, ◌<◌, ◌≤◌, Bool, true, false, if◌then◌else◌, Option, None, Some, List, [], ◌∷◌, ◌++◌, length, slice_get}
use Rattle.std.specs.List.{AllPairs, Contains}
use Rattle.alog_core.specs.Queue.{Event, Claim, Write, Grab, Take, Full, Front, Empty, Idle, PushBusy, PopBusy, Spent, IsListed}
use Rattle.alog_core.specs.Accounts.{claims, takes, issued, handed_out}
use Rattle.alog_core.specs.Run.{Says}
use Rattle.alog_core.specs.World.{is_size, is_idle, round_of}
use Rattle.alog_core.specs.declared.TheConstants.{ACTORS}
use Rattle.alog_core.specs.declared.said.Said.{Said}
use Rattle.alog_core.specs.declared.said.Said.TheVariants as said
use Rattle.alog_msg.specs.declared.item.Item.{Item}
use Rattle.alog_msg.specs.declared.item.Item.TheVariants as item
use Rattle.alog_msg.specs.declared.level.Level.{Level}
use Rattle.alog_policy.specs.Runs.{step_of, entries_made, Call, CallMade, calls_made, outcomes_made, IsRun}
use Rattle.alog_registry.specs.declared.logger.Logger.{Logger}
use Rattle.alog_registry.specs.declared.work.SinkDeed.{SinkDeed}
use Rattle.alog_registry.specs.declared.work.SinkDeed.TheVariants as sink_deed
use Rattle.alog_registry.specs.declared.work.SinkTurn.{SinkTurn}
use Rattle.alog_sink.specs.Files.{Files}
use Rattle.alog_sink.specs.Lines.{admits}
use Rattle.alog_sink.specs.declared.sink.Sink.{Sink}
use Rattle.alog_sink.specs.declared.sink.Sink.TheVariants as sinks
pub use Rattle.alog_system.specs.Acts.{Did, InQueue, OnSink, Keeping, Emptying, Nothing, Made, Act, BeginsDeed, MakesStep, SetsLevel, steps_in, queue_steps, kept_after, levels_after}
use Rattle.alog_system.specs.Asked.{calls_asked, posts_in, turns_asked, turns_made}
use Rattle.alog_system.specs.Begin.{MayBegin, begun}
use Rattle.alog_system.specs.Faults.{SinkStands, FineSinkStands}
use Rattle.alog_system.specs.Roster.{kept_at, turns_for, with_level, RosterView}
use Rattle.alog_system.specs.Step.{SystemSteps}
use Rattle.alog_system.specs.System.{SystemView, fresh_system, duty_of, is_free, with_roster}
use Rattle.alog_system.specs.declared.deed.Deed.{Deed}
use Rattle.alog_system.specs.declared.duty.Duty.{Duty}
use Rattle.alog_system.specs.declared.duty.Duty.TheVariants as duty
use Rattle.alog_system.specs.declared.stepped.Stepped.{Stepped}
use Rattle.alog_system.specs.declared.stepped.Stepped.TheVariants.{Round, Took, Turned}
use Rattle.alog_system.specs.declared.stepped.Turn.{Turn}
use Rattle.alog_system.specs.declared.stepped.Turn.TheVariants.{Kept, Dumped, Line, Below, Fault, Flushed}

abbrev pub on_sink : Option SinkTurn → Item → Did
on_sink None i = Nothing
on_sink (Some turn) i = OnSink turn i

-- the next turn of what an actor does beside its round
abbrev pub turn_of : RosterView → Duty → Did
turn_of r duty.Free = Nothing
turn_of r (duty.Keeps m) = Keeping m
turn_of r (duty.Dumps d) = Emptying d.logger d.time d.thread
turn_of r (duty.Posts p ms) = Nothing
turn_of r duty.Works = Nothing
turn_of r (duty.Serves t i done) = on_sink (slice_get (turns_for r t i) done) i

-- the next step of an actor
abbrev pub did_by : {S : Type 0} → SystemView S → ℕ → Did
did_by v a = if is_idle (round_of v.desk.world a) then turn_of v.roster (duty_of v a) else InQueue (step_of v.desk a)

abbrev pub made_by : {S : Type 0} → SystemView S → ℕ → Stepped → Made
made_by v a told = record { actor = a; did = did_by v a; told = told }

-- Calls that were not refused lead from one system to another. (A refused call changes nothing.)
pub data Leads {S : Type 0} (tells : Bool) (files : S → Files) (failures : S → ℕ) (v : SystemView S) : List Act → SystemView S → Type 0 where
  starts : Leads tells files failures v [] v
  begins : {run : List Act} {w : SystemView S} (a : ℕ) (d : Deed) → Leads tells files failures v run w → MayBegin w a d
      → Leads tells files failures v (run ++ BeginsDeed a d ∷ []) (begun w a d)
  steps : {run : List Act} {w u : SystemView S} (a : ℕ) (told : Stepped) → Leads tells files failures v run w → a < ACTORS
      → SystemSteps tells files failures w a told u → Leads tells files failures v (run ++ MakesStep (made_by w a told) ∷ []) u
  sets : {run : List Act} {w : SystemView S} (n : ℕ) (level : Level) → Leads tells files failures v run w
      → Leads tells files failures v (run ++ SetsLevel n level ∷ []) (with_roster w (with_level w.roster n level))

-- The calls of the queue that an actor began are those that were asked of it, in order, but for those that are left of the dump
-- that it is in: all of them, where it is in no round.
pub record HasCalled {S : Type 0} (loggers : List Logger) (calls : List (CallMade Item)) (run : List Act) (v : SystemView S) (a : ℕ) : Type 0 where
  pub left : List (Call Item)
  pub began : calls_asked loggers a run ≡ calls_made a calls ++ left
  pub none : is_idle (round_of v.desk.world a) ≡ true → left ≡ []

-- The turns beside the queue that an actor made are those that were asked of it, in order, but for those that are left of the call
-- that it is in.
pub record HasTurned {S : Type 0} (loggers : List Logger) (run : List Act) (v : SystemView S) (a : ℕ) : Type 0 where
  pub left : List Did
  pub made : turns_asked loggers a run ≡ turns_made a run ++ left
  pub none : is_free v a ≡ true → left ≡ []

-- A step of the queue answered its event, where the value of a post that goes on is left out.
abbrev pub SaysOf : Said Item → Option (Event Item) → Type 0
SaysOf (said.Busy t x) o = (o ≡ Some (PushBusy t)) ⊎ (o ≡ Some (PopBusy t))
SaysOf s o = Says s o

-- a take that was not told as taken overran its item, which is counted
abbrev pub IsOverrun : Option (Event Item) → ℕ → Type 0
IsOverrun None overran = Unit {0}
IsOverrun (Some (Claim t i)) overran = Unit {0}
IsOverrun (Some (Write t)) overran = Unit {0}
IsOverrun (Some (Grab t)) overran = Unit {0}
IsOverrun (Some (Take t i)) overran = overran ≡ 1
IsOverrun (Some (Full t)) overran = Unit {0}
IsOverrun (Some (Front t)) overran = Unit {0}
IsOverrun (Some (Empty t)) overran = Unit {0}
IsOverrun (Some (Idle t)) overran = Unit {0}
IsOverrun (Some (PushBusy t)) overran = Unit {0}
IsOverrun (Some (PopBusy t)) overran = Unit {0}
IsOverrun (Some Spent) overran = Unit {0}

-- A text was told as below where its level does not pass the sink's, and else as its line, or as a fault; a flush was told as
-- flushed, or as a fault: each by its ticket and the sink's number.
abbrev pub IsToldOfText : Bool → SinkTurn → Turn → Type 0
IsToldOfText false t told = told ≡ Below t.tag t.sink
IsToldOfText true t told = (told ≡ Line t.tag t.sink) ⊎ (told ≡ Fault t.tag t.sink)

abbrev pub IsToldOfFlush : SinkTurn → Turn → Type 0
IsToldOfFlush t told = (told ≡ Flushed t.tag t.sink) ⊎ (told ≡ Fault t.tag t.sink)

abbrev pub IsToldOf : Level → SinkTurn → SinkDeed → Item → Turn → Type 0
IsToldOf own t sink_deed.Take (item.Text m) told = IsToldOfText (admits own m.level) t told
IsToldOf own t sink_deed.Take (item.Flush n) told = IsToldOfFlush t told
IsToldOf own t sink_deed.Take item.Stop told = IsToldOfFlush t told
IsToldOf own t sink_deed.Flush i told = IsToldOfFlush t told

-- the level of a sink
abbrev pub own_level : {S : Type 0} → Sink S → Level
own_level (sinks.Leaf l) = l.face.level
own_level (sinks.Fan f) = f.level

module _ (loggers : List Logger) where
  -- each post that was asked of an actor has ended
  abbrev pub HasPosted : List Act → ℕ → Type 0
  HasPosted before a = length (outcomes_made a (queue_steps (steps_in before))) ≡ posts_in (calls_asked loggers a before)

  -- A step of the queue was its actor's; a turn beside it was made once each post that was asked of its actor had ended.
  abbrev pub IsInPlace : List Act → ℕ → Did → Type 0
  IsInPlace before a (InQueue step) = step.actor ≡ a
  IsInPlace before a (OnSink turn i) = HasPosted before a
  IsInPlace before a (Keeping m) = HasPosted before a
  IsInPlace before a (Emptying n time thread) = HasPosted before a
  IsInPlace before a Nothing = ⊥

module _ {S : Type 0} (loggers : List Logger) (first : List (Sink S)) where
  -- Each step answered what it was. A take is told as taken, or is an overrun; an emptying tells how many messages its logger kept
  -- since the one before.
  abbrev pub Tells : List Act → Stepped → Did → Type 0
  Tells before (Round s) (InQueue step) =
      SaysOf s.said step.event × (s.outcome ≡ step.outcome) × IsOverrun step.event step.overran
  Tells before (Took t) (InQueue step) = (i : Item) × (step.event ≡ Some (Take t i)) × (step.overran ≡ 0)
  Tells before (Turned turn) (OnSink t i) = (s : Sink S) × (slice_get first t.sink ≡ Some s) × IsToldOf (own_level s) t t.deed i turn
  Tells before (Turned turn) (Keeping m) = turn ≡ Kept
  Tells before (Turned turn) (Emptying n time thread) = turn ≡ Dumped (length (kept_after loggers before n))
  Tells before told did = ⊥

  pub record IsMade (before : List Act) (m : Made) : Type 0 where
    pub tells : Tells before m.told m.did
    pub place : IsInPlace loggers before m.actor m.did

-- each step of some acts is so, after the acts before it
abbrev pub StepIs : (Made → Type 0) → Act → Type 0
StepIs P (BeginsDeed a d) = Unit {0}
StepIs P (MakesStep m) = P m
StepIs P (SetsLevel n level) = Unit {0}

abbrev pub EachStep : (List Act → Made → Type 0) → List Act → List Act → Type 0
EachStep P before [] = Unit {0}
EachStep P before (x ∷ run) = StepIs (P before) x × EachStep P (before ++ x ∷ []) run

-- What a run from a new system is.
--
-- Its steps of the queue are a run of the queue by its definition: their entries are one legal history, which leads to the queue
-- and its rounds; each actor's own events are whole pops and posts, with the outcomes that were answered, and the beginning of the one that it
-- is in; and the counts are the losses. These pops and posts are those that its deeds and dumps asked for, and so are each actor's
-- turns beside the queue. Every answer is that of its step. The queue has at most as many cells as places; no item is handed out
-- twice; one that was brought in was handed out or is in the queue, never both; and each is handed out as it was brought in. Each
-- logger's level is the last that was set, and it keeps the last of what it was given since it was last emptied. And each sink
-- stands for exactly the messages of the turns made on it, in order; where a fault was told, a leaf may stand for those before it,
-- with a front of the operations of that turn.
pub record IsSystemRun {S : Type 0} (tells : Bool) (files : S → Files) (places : ℕ) (loggers : List Logger) (first : List (Sink S))
    (run : List Act) (v : SystemView S) : Type 0 where
  pub calls : List (CallMade Item)
  pub queue : IsRun places 0 calls (queue_steps (steps_in run)) v.desk
  pub asked : (a : ℕ) → a < ACTORS → HasCalled loggers calls run v a
  pub turns : (a : ℕ) → a < ACTORS → HasTurned loggers run v a
  pub steps : EachStep (IsMade loggers first) [] run
  pub few : length v.desk.world.queue.cells ≤ places
  pub once : AllPairs (λ t u. t ≢ u) (handed_out (entries_made (queue_steps (steps_in run))))
  pub all : (t : ℕ) → Contains (issued (entries_made (queue_steps (steps_in run)))) t
      ↔ (Contains (handed_out (entries_made (queue_steps (steps_in run)))) t ⊎ IsListed t v.desk.world.queue.cells)
  pub apart : (t : ℕ) → Contains (handed_out (entries_made (queue_steps (steps_in run)))) t → ¬ IsListed t v.desk.world.queue.cells
  pub same : (t : ℕ) (i : Item) → Contains (takes (entries_made (queue_steps (steps_in run)))) (t, i)
      → Contains (claims (entries_made (queue_steps (steps_in run)))) (t, i)
  pub levels : v.roster.levels ≡ levels_after loggers run
  pub kept : (n : ℕ) → (kept_at v.roster n).messages ≡ kept_after loggers run n
  pub sinks : tells ≡ true → SinkStands files (steps_in run) first v.outputs.sinks
  pub fine : tells ≡ true → FineSinkStands files (steps_in run) first v.outputs.sinks

-- So is each run from a new system.
abbrev pub SystemRuns : {S : Type 0} → Bool → (S → Files) → (S → ℕ) → Type 0
SystemRuns {S} tells files failures =
    (places limit : ℕ) (loggers : List Logger) (first : List (Sink S)) (run : List Act) (v : SystemView S) → is_size places ≡ true
    → Leads tells files failures (fresh_system places limit loggers first) run v → IsSystemRun tells files places loggers first run v
