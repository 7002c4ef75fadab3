-- What the deeds of a run ask of its actors: the calls of the queue, and the turns beside it. Nothing here is of how a system is made.
use Rattle.std.specs.Prelude.{ℕ, ℤ, ◌+◌, ◌==◌, if◌then◌else◌, Option, None, Some, List, [], ◌∷◌, map}
use Rattle.std.specs.List.{flat_map}
use Rattle.alog_core.specs.Queue.{Event, Claim, Write, Grab, Take, Full, Front, Empty, Idle, PushBusy, PopBusy, Spent}
use Rattle.alog_msg.specs.declared.item.Item.{Item}
use Rattle.alog_msg.specs.declared.item.Item.TheVariants.{Text, Flush}
use Rattle.alog_msg.specs.declared.level.Level.{Level}
use Rattle.alog_msg.specs.declared.message.Message.{Message}
use Rattle.alog_policy.specs.Runs.{Call, ToPush, ToPop, ToPost}
use Rattle.alog_policy.specs.declared.policy.Policy.{Policy}
use Rattle.alog_registry.specs.Dumping.{posted_of}
use Rattle.alog_registry.specs.Listed.{spec_at}
use Rattle.alog_registry.specs.declared.logger.Logger.{Logger}
use Rattle.alog_registry.specs.declared.work.SinkTurn.{SinkTurn}
use Rattle.alog_system.specs.Acts.{Did, InQueue, OnSink, Keeping, Emptying, Nothing, Act, BeginsDeed, MakesStep, SetsLevel, along, policy, most, level_after, kept_after, is_below, logger_of, turns_by}
use Rattle.alog_system.specs.declared.deed.Deed.{Deed}
use Rattle.alog_system.specs.declared.deed.Deed.TheVariants as deed

-- the message of a log: what was given, its actor as its thread, and no source
abbrev pub message_by : ℕ → ℤ → ℕ → Level → List ℕ → Message
message_by a time n level text = record { logger = n; level = level; time = time; thread = a; text = text; source = None }

-- the posts of some messages under a policy, one after another
abbrev pub posts_of : Policy → List Message → List (Call Item)
posts_of p ms = map (λ (m : Message). ToPost p (Text m)) ms

-- the turns on sinks of an item
abbrev pub on_sinks : Item → List SinkTurn → List Did
on_sinks i turns = map (λ (t : SinkTurn). OnSink t i) turns

module _ (loggers : List Logger) where
  -- Of the queue a deed asks this: a log that its logger's level admits posts its message, under the logger's policy; a flush posts
  -- its flush; and a work pops.
  abbrev pub calls_by_deed : List Act → ℕ → Deed → List (Call Item)
  calls_by_deed before a (deed.Log time n level text) =
      if is_below level (level_after loggers before n)
      then []
      else ToPost (policy loggers n) (Text (message_by a time n level text.now)) ∷ []
  calls_by_deed before a (deed.Flush n) = ToPost (policy loggers n) (Flush n) ∷ []
  calls_by_deed before a (deed.Dump time n) = []
  calls_by_deed before a deed.Work = ToPop ∷ []

  -- A dump that took what its logger kept posts it, oldest first, between two markers; no other step asks anything of the queue.
  abbrev pub calls_by_step : List Act → Did → List (Call Item)
  calls_by_step before (InQueue step) = []
  calls_by_step before (OnSink turn i) = []
  calls_by_step before (Keeping m) = []
  calls_by_step before (Emptying n time thread) = posts_of (policy loggers n) (posted_of n time thread (kept_after loggers before n))
  calls_by_step before Nothing = []

  abbrev pub calls_by : ℕ → List Act → Act → List (Call Item)
  calls_by a before (BeginsDeed b d) = if b == a then calls_by_deed before a d else []
  calls_by a before (MakesStep m) = if m.actor == a then calls_by_step before m.did else []
  calls_by a before (SetsLevel n level) = []

  -- the calls of the queue that a run asks of an actor, in order
  abbrev pub calls_asked : ℕ → List Act → List (Call Item)
  calls_asked a run = along (calls_by a) [] run

  -- Beside the queue a deed asks this: where its logger has a backtrace, a log keeps that very message; and a dump takes what its
  -- logger kept.
  abbrev pub turns_by_deed : ℕ → Deed → List Did
  turns_by_deed a (deed.Log time n level text) =
      if most loggers n == 0 then [] else Keeping (message_by a time n level text.now) ∷ []
  turns_by_deed a (deed.Flush n) = []
  turns_by_deed a (deed.Dump time n) = Emptying n time a ∷ []
  turns_by_deed a deed.Work = []

  -- An item that was taken, and not overrun, asks for its turns on the sinks of its logger.
  abbrev pub turns_by_event : Option (Event Item) → List Did
  turns_by_event None = []
  turns_by_event (Some (Claim t i)) = []
  turns_by_event (Some (Write t)) = []
  turns_by_event (Some (Grab t)) = []
  turns_by_event (Some (Take t i)) = on_sinks i (turns_by (spec_at loggers (logger_of i)) t i)
  turns_by_event (Some (Full t)) = []
  turns_by_event (Some (Front t)) = []
  turns_by_event (Some (Empty t)) = []
  turns_by_event (Some (Idle t)) = []
  turns_by_event (Some (PushBusy t)) = []
  turns_by_event (Some (PopBusy t)) = []
  turns_by_event (Some Spent) = []

  abbrev pub turns_by_step : Did → List Did
  turns_by_step (InQueue step) = if step.overran == 0 then turns_by_event step.event else []
  turns_by_step (OnSink turn i) = []
  turns_by_step (Keeping m) = []
  turns_by_step (Emptying n time thread) = []
  turns_by_step Nothing = []

  abbrev pub turns_by_act : ℕ → Act → List Did
  turns_by_act a (BeginsDeed b d) = if b == a then turns_by_deed a d else []
  turns_by_act a (MakesStep m) = if m.actor == a then turns_by_step m.did else []
  turns_by_act a (SetsLevel n level) = []

  -- the turns beside the queue that a run asks of an actor, in order
  abbrev pub turns_asked : ℕ → List Act → List Did
  turns_asked a run = flat_map (turns_by_act a) run

-- the turns beside the queue that an actor made, in order
abbrev pub beside : Did → List Did
beside (InQueue step) = []
beside (OnSink turn i) = OnSink turn i ∷ []
beside (Keeping m) = Keeping m ∷ []
beside (Emptying n time thread) = Emptying n time thread ∷ []
beside Nothing = []

abbrev pub turn_in : ℕ → Act → List Did
turn_in a (BeginsDeed b d) = []
turn_in a (MakesStep m) = if m.actor == a then beside m.did else []
turn_in a (SetsLevel n level) = []

abbrev pub turns_made : ℕ → List Act → List Did
turns_made a run = flat_map (turn_in a) run

-- how many posts there are among some calls
abbrev pub posts_in : {T : Type 0} → List (Call T) → ℕ
posts_in [] = 0
posts_in (ToPush x ∷ calls) = posts_in calls
posts_in (ToPop ∷ calls) = posts_in calls
posts_in (ToPost p x ∷ calls) = 1 + posts_in calls
