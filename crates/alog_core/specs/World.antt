-- The machine: a queue and 64 actors, each in a round of its own.
use Rattle.std.specs.Prelude.{ℕ, ◌&&◌, nat_lt, nat_le, Bool, true, false, if◌then◌else◌, Option, None, Some, List, [], ◌∷◌}
use Rattle.std.specs.Prelude.{replicate, slice_index_or, slice_set}
use Rattle.std.specs.Int.{is_power_of_two}
use Rattle.alog_core.specs.Queue.{Cell, Queue, Event, Claim, Write, Grab, Take, Full, Front, Empty, Idle, PushBusy, PopBusy}
use Rattle.alog_core.specs.Queue.{Spent, start}
use Rattle.alog_core.specs.Round.{Move, move_of, after_event}
use Rattle.alog_core.specs.History.{Entry}
use Rattle.alog_core.specs.declared.TheConstants.{ACTORS, PLACES_MIN, PLACES_MAX}
use Rattle.alog_core.specs.declared.round.Round.{Round}
use Rattle.alog_core.specs.declared.round.Round.TheVariants as round
use Rattle.alog_core.specs.declared.said.Said.{Said}
use Rattle.alog_core.specs.declared.said.Said.TheVariants as said
use Rattle.alog_core.specs.declared.said.Call.{Call}
use Rattle.alog_core.specs.declared.said.Call.TheVariants as call
use Rattle.alog_core.specs.declared.said.Answer.{Answer}
use Rattle.alog_core.specs.declared.said.Answer.TheVariants as answer
use Rattle.alog_core.specs.declared.said.CellView.{CellView}

pub record Machine (T : Type 0) : Type 0 where
  -- how many places the queue has
  pub places : ℕ
  pub queue : Queue T
  -- the round of each actor, by its number
  pub rounds : List (Round T)

-- a number of places that a queue may have: a power of two from 2 to 65,536
abbrev pub is_size : ℕ → Bool
is_size n = is_power_of_two n && (nat_le PLACES_MIN n && nat_le n PLACES_MAX)

-- an empty queue, and nobody in a call
abbrev pub fresh : {T : Type 0} → ℕ → ℕ → Machine T
fresh n f = record { places = n; queue = start f; rounds = replicate ACTORS round.Idle }

-- the round of an actor
abbrev pub round_of : {T : Type 0} → Machine T → ℕ → Round T
round_of m a = slice_index_or m.rounds a round.Idle

-- nobody's call
abbrev pub is_idle : {T : Type 0} → Round T → Bool
is_idle round.Idle = true
is_idle (round.Push x) = false
is_idle (round.PushRead p x) = false
is_idle (round.PushFree p x) = false
is_idle (round.PushClaimed p) = false
is_idle round.Pop = false
is_idle (round.PopRead p) = false
is_idle (round.PopReady p) = false
is_idle (round.PopGrabbed p) = false
is_idle (round.PopFronted p) = false

-- the machine with this actor in this round
abbrev pub began : {T : Type 0} → Machine T → ℕ → Round T → Machine T
began m a r = record { places = m.places; queue = m.queue; rounds = slice_set m.rounds a r }

-- what the next step of an actor is
abbrev pub next_move : {T : Type 0} → Machine T → ℕ → Move T
next_move m a = move_of m.places m.queue (round_of m a)

-- the machine after that step
abbrev pub stepped : {T : Type 0} → Machine T → ℕ → Machine T
stepped m a =
    record {
      places = m.places;
      queue = after_event m.queue a (next_move m a).event;
      rounds = slice_set m.rounds a (next_move m a).round;
    }

-- the item that a push still has in hand
abbrev pub brought : {T : Type 0} → Round T → Option T
brought round.Idle = None
brought (round.Push x) = Some x
brought (round.PushRead p x) = Some x
brought (round.PushFree p x) = Some x
brought (round.PushClaimed p) = None
brought round.Pop = None
brought (round.PopRead p) = None
brought (round.PopReady p) = None
brought (round.PopGrabbed p) = None
brought (round.PopFronted p) = None

-- what a step answers: its event, and to a refused push the item that it brought
abbrev pub said_of : {T : Type 0} → Option T → Option (Event T) → Said T
said_of x None = said.Nothing
said_of x (Some (Claim t y)) = said.Claim t
said_of x (Some (Write t)) = said.Write t
said_of x (Some (Full t)) = said.Full t x
said_of x (Some (Grab t)) = said.Grab t
said_of x (Some (Take t y)) = said.Take t y
said_of x (Some (Front t)) = said.Front t
said_of x (Some (Empty t)) = said.Empty t
said_of x (Some (Idle t)) = said.Idle t
said_of x (Some (PushBusy t)) = said.Busy t x
said_of x (Some (PopBusy t)) = said.Busy t x
said_of x (Some Spent) = said.Spent x

-- what the next step of an actor answers
abbrev pub told : {T : Type 0} → Machine T → ℕ → Said T
told m a = said_of (brought (round_of m a)) (next_move m a).event

-- the entries that a step adds to a history: one event, or none
abbrev pub entries_of : {T N : Type 0} → ℕ → N → Option (Event T) → List (Entry T N)
entries_of a note None = []
entries_of a note (Some e) = record { actor = a; event = e; note = note } ∷ []

-- the reply to a call
abbrev pub reply_to : {T : Type 0} → Machine T → Call T → Answer T
reply_to m (call.Push a x) =
    if nat_lt a ACTORS
    then (if is_idle (round_of m a) then answer.Began else answer.Refused 7 (Some x))
    else answer.Refused 6 (Some x)
reply_to m (call.Pop a) =
    if nat_lt a ACTORS
    then (if is_idle (round_of m a) then answer.Began else answer.Refused 7 None)
    else answer.Refused 6 None
reply_to m (call.Step a) =
    if nat_lt a ACTORS
    then (if is_idle (round_of m a) then answer.Refused 8 None else answer.Said (told m a))
    else answer.Refused 6 None

-- the machine after a call; a refused one changes nothing
abbrev pub after_call : {T : Type 0} → Machine T → Call T → Machine T
after_call m (call.Push a x) =
    if nat_lt a ACTORS then (if is_idle (round_of m a) then began m a (round.Push x) else m) else m
after_call m (call.Pop a) = if nat_lt a ACTORS then (if is_idle (round_of m a) then began m a round.Pop else m) else m
after_call m (call.Step a) = if nat_lt a ACTORS then (if is_idle (round_of m a) then m else stepped m a) else m

-- the replies to calls, one after another
abbrev pub replies_to : {T : Type 0} → Machine T → List (Call T) → List (Answer T)
replies_to m [] = []
replies_to m (c ∷ cs) = reply_to m c ∷ replies_to (after_call m c) cs

-- the machine after calls
abbrev pub after_calls : {T : Type 0} → Machine T → List (Call T) → Machine T
after_calls m [] = m
after_calls m (c ∷ cs) = after_calls (after_call m c) cs

-- what is shown of a cell
abbrev pub shown : {T : Type 0} → Cell T → CellView
shown c = record { ticket = c.ticket; mark = c.mark }
