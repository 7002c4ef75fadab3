-- A round: the steps of one push or pop. Each step reads or writes one word, and all a step knows of the words
-- that earlier steps read is the ticket in its round.
use Rattle.std.specs.Prelude.{ℕ, ◌+◌, ◌==◌, ◌&&◌, ◌||◌, not, nat_lt, Bool, true, false, if◌then◌else◌, Option, None, Some}
use Rattle.std.specs.Prelude.{is_none, List}
use Rattle.std.specs.List.{list_any}
use Rattle.alog_core.specs.Queue.{Cell, Queue, Event, Claim, Write, Grab, Take, Full, Front, Empty, PushBusy, PopBusy, Spent, last}
use Rattle.alog_core.specs.Queue.{cell_of, after}
use Rattle.alog_core.specs.Queue as queue
use Rattle.alog_core.specs.declared.round.Round.{Round}
use Rattle.alog_core.specs.declared.round.Round.TheVariants.{Idle, Push, PushRead, PushFree, PushClaimed, Pop, PopRead, PopReady}
use Rattle.alog_core.specs.declared.round.Round.TheVariants.{PopGrabbed, PopFronted}
use Rattle.alog_core.specs.declared.mark.Mark.{Mark}
use Rattle.alog_core.specs.declared.mark.Mark.TheVariants.{Claimed, Written, Emptying}

-- What a step is for the queue, if it is an event, and where it leaves the actor.
pub record Move (T : Type 0) : Type 0 where
  pub event : Option (Event T)
  pub round : Round T

-- a step that is no event: the round goes on
abbrev pub goes_on : {T : Type 0} → Round T → Move T
goes_on r = record { event = None; round = r }

-- an event, after which the round goes on
abbrev pub makes : {T : Type 0} → Event T → Round T → Move T
makes e r = record { event = Some e; round = r }

-- an event that ends the round
abbrev pub ends : {T : Type 0} → Event T → Move T
ends e = record { event = Some e; round = Idle }

-- the queue after a step that may be an event
abbrev pub after_event : {T : Type 0} → Queue T → ℕ → Option (Event T) → Queue T
after_event q a None = q
after_event q a (Some e) = after q a e

-- the taker hands out the item of its cell
abbrev pub taking : {T : Type 0} → ℕ → Option (Cell T) → Move T
taking t None = goes_on Idle
taking t (Some c) = ends (Take t c.item)

-- a test of the mark
abbrev pub marks_claimed : Mark → Bool
marks_claimed Claimed = true
marks_claimed Written = false
marks_claimed Emptying = false

-- the ticket n before this one is listed still
abbrev pub is_blocked : {T : Type 0} → ℕ → ℕ → List (Cell T) → Bool
is_blocked n t cs = list_any (λ c. c.ticket + n == t) cs

-- the cell is there, claimed and not yet written
abbrev pub is_claimed : {T : Type 0} → Option (Cell T) → Bool
is_claimed None = false
is_claimed (Some c) = marks_claimed c.mark

-- The table of a round: what each of its steps reads, and what it answers by it.
abbrev pub move_of : {T : Type 0} → ℕ → Queue T → Round T → Move T
move_of n q Idle = goes_on Idle
-- A push: load the next ticket; load the sequence of its place; move the next ticket on; store the sequence.
move_of n q (Push x) = if q.next == last then ends Spent else goes_on (PushRead q.next x)
move_of n q (PushRead p x) =
    if is_blocked n p q.cells then ends (Full p)
    else if nat_lt p q.next && not (is_claimed (cell_of p q.cells)) then ends (PushBusy p)
    else goes_on (PushFree p x)
move_of n q (PushFree p x) = if q.next == p then makes (Claim p x) (PushClaimed p) else ends (PushBusy p)
move_of n q (PushClaimed p) = ends (Write p)
-- A pop: load the front ticket; load the sequence of its place; move the front ticket on; store the sequence. Where the front
-- is not written, it loads the next ticket in place of the last two.
move_of n q Pop = goes_on (PopRead q.front)
move_of n q (PopRead p) =
    if p == q.front && (is_none (cell_of p q.cells) || is_claimed (cell_of p q.cells)) then makes (Front p) (PopFronted p)
    else if nat_lt p q.front && is_none (cell_of p q.cells) then ends (PopBusy p)
    else goes_on (PopReady p)
move_of n q (PopReady p) = if q.front == p then makes (Grab p) (PopGrabbed p) else ends (PopBusy p)
move_of n q (PopGrabbed p) = taking p (cell_of p q.cells)
move_of n q (PopFronted p) = if q.next == p then ends (queue.Idle p) else ends (Empty p)
