-- Which histories lead to a machine, and how they go on. Then a run, which is calls of a machine one after another: the
-- entries that they add to a history, what the replies tell of them, and what each step finds.
use Rattle.std.specs.Prelude.{◌≡◌, ℕ, ◌<◌, nat_lt, if◌then◌else◌, Option, None, Some, List, [], ◌∷◌, ◌++◌}
use Rattle.alog_core.specs.Queue.{Event, Claim, Write, Grab, Take, Full, Front, Empty, Idle, PushBusy, PopBusy}
use Rattle.alog_core.specs.Queue.{Spent, HasCell}
use Rattle.alog_core.specs.History.{Entry, StandsFor, latest}
use Rattle.alog_core.specs.World.{Machine, round_of, is_idle, next_move, told, entries_of, after_call, after_calls}
use Rattle.alog_core.specs.declared.TheConstants.{ACTORS}
use Rattle.alog_core.specs.declared.mark.Mark.TheVariants.{Claimed, Emptying}
use Rattle.alog_core.specs.declared.round.Round.TheVariants as round
use Rattle.alog_core.specs.declared.said.Said.{Said}
use Rattle.alog_core.specs.declared.said.Said.TheVariants as said
use Rattle.alog_core.specs.declared.said.Call.{Call}
use Rattle.alog_core.specs.declared.said.Call.TheVariants as call
use Rattle.alog_core.specs.declared.said.Answer.{Answer}
use Rattle.alog_core.specs.declared.said.Answer.TheVariants as answer

-- The history leads to this machine: it leaves its queue, and the last event of whoever is before the last look of a pop is the
-- front of that pop.
pub record LeadsTo {T N : Type 0} (f : ℕ) (h : List (Entry T N)) (m : Machine T) : Type 0 where
  pub stands : StandsFor m.places f h m.queue
  pub fronts : (a p : ℕ) → round_of m a ≡ round.PopFronted p → latest a h ≡ Some (Front p)

-- each history that leads to the first machine goes on, legally, with these entries to one that leads to the second
abbrev pub GoesOn : {T N : Type 0} → Machine T → List (Entry T N) → Machine T → Type 0
GoesOn {T} {N} m made k = (f : ℕ) (h : List (Entry T N)) → LeadsTo f h m → LeadsTo f (h ++ made) k

-- the entry that a step of this actor adds to the history, if it is an event
abbrev pub entries_of_step : {T : Type 0} → Machine T → ℕ → List (Entry T (Unit {0}))
entries_of_step m a = entries_of a tt (next_move m a).event

-- the entries that a call adds: those of its step, unless it was refused
abbrev pub entries_of_call : {T : Type 0} → Machine T → Call T → List (Entry T (Unit {0}))
entries_of_call m (call.Push a x) = []
entries_of_call m (call.Pop a) = []
entries_of_call m (call.Step a) =
    if nat_lt a ACTORS
    then (if is_idle (round_of m a) then [] else entries_of_step m a)
    else []

-- the entries of a run
abbrev pub entries_of_run : {T : Type 0} → Machine T → List (Call T) → List (Entry T (Unit {0}))
entries_of_run m [] = []
entries_of_run m (c ∷ cs) = entries_of_call m c ++ entries_of_run (after_call m c) cs

-- What a step's answer says of its event. A claim's answer leaves out the item, which is that of the push.
abbrev pub Says : {T : Type 0} → Said T → Option (Event T) → Type 0
Says said.Nothing o = o ≡ None
Says {T} (said.Claim t) o = (x : T) × (o ≡ Some (Claim t x))
Says (said.Write t) o = o ≡ Some (Write t)
Says (said.Full t x) o = o ≡ Some (Full t)
Says (said.Grab t) o = o ≡ Some (Grab t)
Says (said.Take t x) o = o ≡ Some (Take t x)
Says (said.Front t) o = o ≡ Some (Front t)
Says (said.Empty t) o = o ≡ Some (Empty t)
Says (said.Idle t) o = o ≡ Some (Idle t)
Says (said.Busy t (Some x)) o = o ≡ Some (PushBusy t)
Says (said.Busy t None) o = o ≡ Some (PopBusy t)
Says (said.Spent x) o = o ≡ Some Spent

-- the entries that the answer to a call tells: what a step says, as an entry of its actor
abbrev pub Tells : {T : Type 0} → Call T → Answer T → List (Entry T (Unit {0})) → Type 0
Tells (call.Push a x) r made = made ≡ []
Tells (call.Pop a) r made = made ≡ []
Tells (call.Step a) answer.Began made = ⊥
Tells (call.Step a) (answer.Refused number x) made = made ≡ []
Tells {T} (call.Step a) (answer.Said s) made = (o : Option (Event T)) × Says s o × (made ≡ entries_of a tt o)

-- the answers of a run tell its entries, call by call
abbrev pub TellAll : {T : Type 0} → List (Call T) → List (Answer T) → List (Entry T (Unit {0})) → Type 0
TellAll [] [] made = made ≡ []
TellAll [] (r ∷ rs) made = ⊥
TellAll (c ∷ cs) [] made = ⊥
TellAll {T} (c ∷ cs) (r ∷ rs) made =
    (first : List (Entry T (Unit {0}))) × (rest : List (Entry T (Unit {0})))
    × (made ≡ first ++ rest) × Tells c r first × TellAll cs rs rest

-- Whoever got a ticket has its cell until the call's last step, which writes it, or takes its item out.
pub record HasItsCell {T : Type 0} (m : Machine T) (a : ℕ) : Type 0 where
  pub writes : (t : ℕ) → round_of m a ≡ round.PushClaimed t → (x : T) × HasCell m.queue.cells t Claimed x a
      × (told m a ≡ said.Write t)
  pub takes : (t : ℕ) → round_of m a ≡ round.PopGrabbed t → (x : T) × HasCell m.queue.cells t Emptying x a
      × (told m a ≡ said.Take t x)

-- so it is at each step of a run
abbrev pub EachHasItsCell : {T : Type 0} → Machine T → List (Call T) → Type 0
EachHasItsCell {T} m calls =
    (before : List (Call T)) (a : ℕ) (later : List (Call T))
    → calls ≡ before ++ call.Step a ∷ later → a < ACTORS → HasItsCell (after_calls m before) a
