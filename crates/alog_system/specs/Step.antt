-- One step of an actor in a call: a step of its round where it is in one, and else a turn of what it does beside.
use Rattle.std.specs.Prelude.{◌≡◌, ℕ, ◌+◌, Bool, Option, Some, None, List, [], ◌∷◌, length, slice_get, MatchBool, if◌then◌else◌}
use Rattle.alog_core.specs.History.{Entry}
use Rattle.alog_core.specs.Run.{entries_of_step}
use Rattle.alog_core.specs.World.{is_idle, round_of}
use Rattle.alog_core.specs.declared.said.Said.{Said}
use Rattle.alog_core.specs.declared.said.Said.TheVariants as said
use Rattle.alog_msg.specs.declared.item.Item.{Item}
use Rattle.alog_msg.specs.declared.item.Item.TheVariants.{Text}
use Rattle.alog_msg.specs.declared.message.Message.{Message}
use Rattle.alog_policy.specs.Desk.{desk_told, desk_stepped, post_began}
use Rattle.alog_policy.specs.declared.policy.Policy.{Policy}
use Rattle.alog_policy.specs.declared.policy.Outcome.{Outcome}
use Rattle.alog_policy.specs.declared.post.Stepped.{Stepped as DeskStepped}
use Rattle.alog_registry.specs.Dumping.{posted_of}
use Rattle.alog_registry.specs.declared.work.SinkTurn.{SinkTurn}
use Rattle.alog_sink.specs.Files.{Files}
use Rattle.alog_system.specs.Dump.{DumpView}
use Rattle.alog_system.specs.Outputs.{OutputsView, Turns}
use Rattle.alog_system.specs.Roster.{keeping, emptied, kept_at, policy_at, turns_for}
use Rattle.alog_system.specs.System.{SystemView, duty_of, with_desk, with_duty, with_roster, with_outputs}
use Rattle.alog_system.specs.declared.duty.Duty.{Duty}
use Rattle.alog_system.specs.declared.duty.Duty.TheVariants.{Free, Keeps, Dumps, Posts, Works, Serves}
use Rattle.alog_system.specs.declared.stepped.Stepped.{Stepped}
use Rattle.alog_system.specs.declared.stepped.Stepped.TheVariants.{Round, Took, Turned}
use Rattle.alog_system.specs.declared.stepped.Turn.{Turn}
use Rattle.alog_system.specs.declared.stepped.Turn.TheVariants.{Kept, Dumped}

-- The posts of a dump: the first of these messages begins to be posted, and the others follow it.
abbrev pub posting : {S : Type 0} → SystemView S → ℕ → Policy → List Message → SystemView S
posting v a p [] = with_duty v a Free
posting v a p (m ∷ ms) = with_duty (with_desk v (post_began v.desk a p (Text m))) a (Posts p ms)

-- what a worker does after a step of its pop: the turns of the item that it took
abbrev pub work_after : Said Item → Duty
work_after said.Nothing = Works
work_after (said.Claim t) = Free
work_after (said.Write t) = Free
work_after (said.Full t i) = Free
work_after (said.Grab t) = Works
work_after (said.Take t i) = Serves t i 0
work_after (said.Front t) = Works
work_after (said.Empty t) = Free
work_after (said.Idle t) = Free
work_after (said.Busy t i) = Free
work_after (said.Spent i) = Free

-- and what is told of that step: the item stays with the worker
abbrev pub told_of_work : DeskStepped Item → Said Item → Stepped
told_of_work s said.Nothing = Round s
told_of_work s (said.Claim t) = Round s
told_of_work s (said.Write t) = Round s
told_of_work s (said.Full t i) = Round s
told_of_work s (said.Grab t) = Round s
told_of_work s (said.Take t i) = Took t
told_of_work s (said.Front t) = Round s
told_of_work s (said.Empty t) = Round s
told_of_work s (said.Idle t) = Round s
told_of_work s (said.Busy t i) = Round s
told_of_work s (said.Spent i) = Round s

-- what is told of a step of a round
abbrev pub told_in_round : Duty → DeskStepped Item → Stepped
told_in_round Free s = Round s
told_in_round (Keeps m) s = Round s
told_in_round (Dumps d) s = Round s
told_in_round (Posts p ms) s = Round s
told_in_round Works s = told_of_work s s.said
told_in_round (Serves t i done) s = Round s

-- where a post of a dump has ended, the next begins
abbrev pub posting_on : {S : Type 0} → SystemView S → ℕ → Policy → List Message → Option (Outcome Item) → SystemView S
posting_on v a p ms None = v
posting_on v a p ms (Some o) = posting v a p ms

-- the system after a step of a round, which the desk has made
abbrev pub follows : {S : Type 0} → SystemView S → ℕ → Duty → DeskStepped Item → SystemView S
follows v a Free s = v
follows v a (Keeps m) s = v
follows v a (Dumps d) s = v
follows v a (Posts p ms) s = posting_on v a p ms s.outcome
follows v a Works s = with_duty v a (work_after s.said)
follows v a (Serves t i done) s = v

abbrev pub after_round : {S : Type 0} → SystemView S → ℕ → SystemView S
after_round v a = follows (with_desk v (desk_stepped v.desk a)) a (duty_of v a) (desk_told v.desk a)

abbrev pub RoundSteps : {S : Type 0} → SystemView S → ℕ → Stepped → SystemView S → Type 0
RoundSteps v a told new = (told ≡ told_in_round (duty_of v a) (desk_told v.desk a)) × (new ≡ after_round v a)

-- the entries that a step of an actor adds to the history of the queue: that of its step of the queue, or none
abbrev pub entries_by : {S : Type 0} → SystemView S → ℕ → List (Entry Item (Unit {0}))
entries_by v a = if is_idle (round_of v.desk.world a) then [] else entries_of_step v.desk.world a

-- what the dump of a logger posts
abbrev pub dumped_by : {S : Type 0} → SystemView S → DumpView → List Message
dumped_by v d = posted_of d.logger d.time d.thread (kept_at v.roster d.logger).messages

module _ {S : Type 0} (tells : Bool) (files : S → Files) (failures : S → ℕ) where
  -- a turn of a work is made on its sink
  abbrev pub TurnsOn : SystemView S → SinkTurn → Item → Turn → SystemView S → Type 0
  TurnsOn v turn i told new =
      (outputs : OutputsView S) × Turns tells files failures v.outputs turn i told outputs × (new ≡ with_outputs v outputs)

  -- The next turn of a work is made, and tagged with the ticket.
  pub record ServesOn (v : SystemView S) (a t : ℕ) (i : Item) (done : ℕ) (told : Turn) (new : SystemView S) : Type 0 where
    pub turn : SinkTurn
    pub next : slice_get (turns_for v.roster t i) done ≡ Some turn
    pub outputs : OutputsView S
    pub makes : Turns tells files failures v.outputs turn i told outputs
    pub after : new ≡ with_duty (with_outputs v outputs) a (Serves t i (done + 1))

  -- The turn of an actor that is in no round: a message is kept, what was kept is taken and begins to be posted, or a sink has a
  -- turn.
  abbrev pub TurnSteps : SystemView S → ℕ → Duty → Turn → SystemView S → Type 0
  TurnSteps v a Free told new = ⊥
  TurnSteps v a (Keeps m) told new = (told ≡ Kept) × (new ≡ with_duty (with_roster v (keeping v.roster m)) a Free)
  TurnSteps v a (Dumps d) told new =
      (told ≡ Dumped (length (kept_at v.roster d.logger).messages))
      × (new ≡ posting (with_roster v (emptied v.roster d.logger)) a (policy_at v.roster d.logger) (dumped_by v d))
  TurnSteps v a (Posts p ms) told new = ⊥
  TurnSteps v a Works told new = ⊥
  TurnSteps v a (Serves t i done) told new = ServesOn v a t i done told new

  abbrev pub TurnTold : SystemView S → ℕ → Stepped → SystemView S → Type 0
  TurnTold v a told new = (turn : Turn) × (told ≡ Turned turn) × TurnSteps v a (duty_of v a) turn new

  -- one step of an actor in a call
  abbrev pub SystemSteps : SystemView S → ℕ → Stepped → SystemView S → Type 0
  SystemSteps v a told new = MatchBool (is_idle (round_of v.desk.world a)) (TurnTold v a told new) (RoundSteps v a told new)
