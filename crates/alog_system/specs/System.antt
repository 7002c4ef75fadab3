-- The system: the stepped queue with its posts, the loggers, the sinks, and what each actor does beside its round.
use Rattle.std.specs.Prelude.{ℕ, nat_lt, not, ◌&&◌, Bool, true, false, Option, Some, None, List}
use Rattle.std.specs.Prelude.{length, replicate, slice_index_or, slice_set}
use Rattle.alog_core.specs.World.{is_idle, round_of}
use Rattle.alog_core.specs.declared.TheConstants.{ACTORS}
use Rattle.alog_msg.specs.declared.item.Item.{Item}
use Rattle.alog_policy.specs.Desk.{DeskView, fresh_desk}
use Rattle.alog_registry.specs.declared.logger.Logger.{Logger}
use Rattle.alog_sink.specs.declared.sink.Sink.{Sink}
use Rattle.alog_system.specs.Outputs.{OutputsView}
use Rattle.alog_system.specs.Roster.{RosterView, fresh_roster, turns_for}
use Rattle.alog_system.specs.declared.duty.Duty.{Duty}
use Rattle.alog_system.specs.declared.duty.Duty.TheVariants.{Free, Keeps, Dumps, Posts, Works, Serves}

pub record SystemView (S : Type 0) : Type 0 where
  pub desk : DeskView Item
  -- what each actor does beside its round, by its number
  pub duties : List Duty
  pub roster : RosterView
  pub outputs : OutputsView S

-- an empty queue, nobody in a call, no loss, nothing kept, and each logger with its first level
abbrev pub fresh_system : {S : Type 0} → ℕ → ℕ → List Logger → List (Sink S) → SystemView S
fresh_system places limit loggers sinks =
    record {
      desk = fresh_desk places 0;
      duties = replicate ACTORS Free;
      roster = fresh_roster loggers;
      outputs = record { sinks = sinks; text_limit = limit };
    }

abbrev pub duty_of : {S : Type 0} → SystemView S → ℕ → Duty
duty_of v a = slice_index_or v.duties a Free

-- something is left of a duty when the actor is in no round
abbrev pub owes : RosterView → Duty → Bool
owes r Free = false
owes r (Keeps m) = true
owes r (Dumps d) = true
owes r (Posts p ms) = false
owes r Works = false
owes r (Serves t i done) = nat_lt done (length (turns_for r t i))

-- the item that an actor took
abbrev pub item_of : Duty → Option Item
item_of Free = None
item_of (Keeps m) = None
item_of (Dumps d) = None
item_of (Posts p ms) = None
item_of Works = None
item_of (Serves t i done) = Some i

-- the actor is in no call
abbrev pub is_free : {S : Type 0} → SystemView S → ℕ → Bool
is_free v a = is_idle (round_of v.desk.world a) && not (owes v.roster (duty_of v a))

-- the system where only the queue has moved, or only what an actor does, or only the loggers, or only the sinks
abbrev pub with_desk : {S : Type 0} → SystemView S → DeskView Item → SystemView S
with_desk v desk = record { desk = desk; duties = v.duties; roster = v.roster; outputs = v.outputs }

abbrev pub with_duty : {S : Type 0} → SystemView S → ℕ → Duty → SystemView S
with_duty v a duty = record { desk = v.desk; duties = slice_set v.duties a duty; roster = v.roster; outputs = v.outputs }

abbrev pub with_roster : {S : Type 0} → SystemView S → RosterView → SystemView S
with_roster v roster = record { desk = v.desk; duties = v.duties; roster = roster; outputs = v.outputs }

abbrev pub with_outputs : {S : Type 0} → SystemView S → OutputsView S → SystemView S
with_outputs v outputs = record { desk = v.desk; duties = v.duties; roster = v.roster; outputs = outputs }
