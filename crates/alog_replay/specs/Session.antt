-- A queue under a script: the stepped queue with posts, what its actors owe, and the memory file.
use Rattle.std.specs.Prelude.{◌≡◌, ℕ, pos, ◌&&◌, nat_le, Bool, true, false, Option, Some, None, List, []}
use Rattle.std.specs.Prelude.{length, map, replicate, slice_index_or, slice_set, codes}
use Rattle.alog_core.specs.World.{is_idle, round_of, shown}
use Rattle.alog_core.specs.declared.TheConstants.{ACTORS}
use Rattle.alog_core.specs.declared.round.Round.TheVariants as round
use Rattle.alog_core.specs.declared.said.Said.{Said}
use Rattle.alog_core.specs.declared.said.Said.TheVariants as said
use Rattle.alog_policy.specs.Desk.{DeskView, fresh_desk, call_began, post_began, desk_told, desk_stepped}
use Rattle.alog_policy.specs.declared.policy.Policy.{Policy}
use Rattle.alog_msg.specs.declared.limits.TheConstants.{DEFAULT_TEXT_LIMIT}
use Rattle.alog_msg.specs.declared.level.Level.TheVariants.{Info}
use Rattle.alog_msg.specs.declared.message.Message.{Message}
use Rattle.alog_replay.specs.Memory.{MemoryFile, memory_name, no_file, Turns}
use Rattle.alog_replay.specs.Texts.{stepped_text, turn_text, cells_line, file_text}
use Rattle.alog_replay.specs.declared.duty.Duty.{Duty}
use Rattle.alog_replay.specs.declared.duty.Duty.TheVariants.{Free, Works, Owes}

pub record Stage : Type 0 where
  pub desk : DeskView Message
  -- what each actor owes beside its round
  pub duties : List Duty
  -- the memory file
  pub memory : MemoryFile

-- an empty queue, nobody in a call, no loss, and no file
abbrev pub opened : ℕ → ℕ → Stage
opened places first = record { desk = fresh_desk places first; duties = replicate ACTORS Free; memory = no_file }

abbrev pub duty_of : Stage → ℕ → Duty
duty_of s a = slice_index_or s.duties a Free

abbrev pub owes_nothing : Duty → Bool
owes_nothing Free = true
owes_nothing Works = true
owes_nothing (Owes t m) = false

-- the actor is in no call
abbrev pub is_free : Stage → ℕ → Bool
is_free s a = is_idle (round_of s.desk.world a) && owes_nothing (duty_of s a)

-- a pushed text as a message
abbrev pub message_of : ℕ → List ℕ → Message
message_of a text = record { logger = 0; level = Info; time = pos 0; thread = a; text = text; source = None }

-- a message as a take shows it
abbrev pub shown_message : Message → List ℕ
shown_message m = m.text

-- how a turn that wrote is named, and one that failed
abbrev pub turn_name : Bool → List ℕ
turn_name true = codes "line"
turn_name false = codes "fault"

-- what is printed of a turn of the memory file
abbrev pub memory_turn_text : ℕ → ℕ → Bool → List ℕ
memory_turn_text a t written = turn_text a (turn_name written) t memory_name

-- what a worker owes after a step of its pop: a turn for what it took, and nothing where the pop has ended without
abbrev pub work_after : Said Message → Duty
work_after said.Nothing = Works
work_after (said.Claim t) = Free
work_after (said.Write t) = Free
work_after (said.Full t m) = Free
work_after (said.Grab t) = Works
work_after (said.Take t m) = Owes t m
work_after (said.Front t) = Works
work_after (said.Empty t) = Free
work_after (said.Idle t) = Free
work_after (said.Busy t m) = Free
work_after (said.Spent m) = Free

-- the stage where only the queue has moved, or only what an actor owes, or only the file
abbrev pub with_desk : Stage → DeskView Message → Stage
with_desk s desk = record { desk = desk; duties = s.duties; memory = s.memory }

abbrev pub with_duty : Stage → ℕ → Duty → Stage
with_duty s a duty = record { desk = s.desk; duties = slice_set s.duties a duty; memory = s.memory }

abbrev pub with_memory : Stage → MemoryFile → Stage
with_memory s memory = record { desk = s.desk; duties = s.duties; memory = memory }

-- the next step of an actor's push, pop or post, after which it owes this
abbrev pub RoundSteps : Stage → ℕ → Duty → List ℕ → Stage → Type 0
RoundSteps s a duty text next =
    (text ≡ stepped_text shown_message a (desk_told s.desk a)) × (next ≡ with_duty (with_desk s (desk_stepped s.desk a)) a duty)

-- one step of an actor in a call, where the store may fail or not: the turn that it owes, or else the next step of its
-- push, pop or post
abbrev pub StepsBy : Bool → Stage → ℕ → Duty → List ℕ → Stage → Type 0
StepsBy may_fail s a Free text next = RoundSteps s a Free text next
StepsBy may_fail s a Works text next = RoundSteps s a (work_after (desk_told s.desk a).said) text next
StepsBy may_fail s a (Owes t m) text next =
    (written : Bool) × (memory : MemoryFile) × Turns may_fail s.memory m.text written memory
    × (text ≡ memory_turn_text a t written) × (next ≡ with_duty (with_memory s memory) a Free)

abbrev pub Steps : Bool → Stage → ℕ → List ℕ → Stage → Type 0
Steps may_fail s a text next = StepsBy may_fail s a (duty_of s a) text next

-- the stage with an actor's call begun
abbrev pub pushing : Stage → ℕ → List ℕ → Stage
pushing s a text = with_duty (with_desk s (call_began s.desk a (round.Push (message_of a text)))) a Free

abbrev pub popping : Stage → ℕ → Duty → Stage
popping s a duty = with_duty (with_desk s (call_began s.desk a round.Pop)) a duty

abbrev pub posting : Stage → ℕ → Policy → List ℕ → Stage
posting s a p text = with_duty (with_desk s (post_began s.desk a p (message_of a text))) a Free

-- an actor in no call may push this text, or post it
abbrev pub may_push : Stage → ℕ → List ℕ → Bool
may_push s a text = is_free s a && nat_le (length text) DEFAULT_TEXT_LIMIT

abbrev pub cells_text : Stage → List ℕ
cells_text s = cells_line (map shown s.desk.world.queue.cells)

-- the memory file as it is printed at the end: nothing where it was not made
abbrev pub memory_file_text : Option (List ℕ) → List ℕ
memory_file_text None = []
memory_file_text (Some bytes) = file_text memory_name memory_name bytes
