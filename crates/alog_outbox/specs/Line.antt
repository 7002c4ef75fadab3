-- The queue of full areas. One pass at most may push, and it has the bytes that were sent; one at most may pop, and it has the bytes that were got. Behind
-- the last area the end may be sent: by then all calls were, and no pass may push any more.
use Rattle.std.specs.Prelude.{◌≡◌, ◌≢◌, ℕ, Bool, true, false, List, [], ◌∷◌, ◌++◌, Option, Some, None, if◌then◌else◌}
use Rattle.std.specs.List.{AllByRecursion}
use mathlib.Core.Option.{some}
use lib.ListN.{get_elem?}
use Rattle.alog_outbox.specs.Calls.{AreRecords, encoded}
use Rattle.alog_outbox.specs.declared.call.Call.{Call}
use Rattle.alog_outbox.specs.declared.letter.Letter.{Letter}
use Rattle.alog_outbox.specs.declared.letter.Letter.TheVariants.{Area, End}
use Rattle.alog_outbox.specs.declared.line.Log.{Log}
use Rattle.crossbeam_queue.specs.Passes.{IsPassOf, Pass, view}
use Rattle.crossbeam_queue.specs.declared.array_queue.Doing.{Doing}
use Rattle.crossbeam_queue.specs.declared.array_queue.Slotted.{Slotted}

abbrev pub log : Bool → Bool → List Call → List ℕ → List ℕ → Log
log pushes pops calls sent got = record { pushes = pushes; pops = pops; is_over = false; calls = calls; sent = sent; got = got }

-- what is known after an area was sent, after one was got, and after a call was told
abbrev pub sending : List ℕ → Log → Log
sending area v = record v { sent = v.sent ++ area }

abbrev pub getting : List ℕ → Log → Log
getting area v = record v { got = v.got ++ area }

abbrev pub telling : Call → Log → Log
telling c v = record v { calls = c ∷ v.calls }

-- what is known after the end was got, of a store that was told these calls
abbrev pub ending : List Call → Log → Log
ending calls v = record v { is_over = true; calls = calls }

-- what a pass knows
abbrev pub known : Pass Letter Log → Log
known pass = view pass

-- the calls that the store was told, where the end was got
abbrev pub told_by : Log → Option (List Call)
told_by v = if v.is_over then Some v.calls else None

abbrev pub Fits : ℕ → ℕ → List ℕ → List ℕ → ℕ → Log → Type 0
Fits writer reader sent got port v =
    (v.pushes ≡ true → (port ≡ writer) × (v.sent ≡ sent)) × (v.pops ≡ true → (port ≡ reader) × (v.got ≡ got))

-- an area that is sent: it is not empty, and in it are whole records
abbrev pub IsSent : List ℕ → Type 0
IsSent area = (area ≢ []) × AreRecords area

abbrev pub IsLetter : Letter → Type 0
IsLetter (Area area) = IsSent area
IsLetter End = Unit {0}

-- the bytes of what lies there
abbrev pub carried : List Letter → List ℕ
carried [] = []
carried (Area area ∷ items) = area ++ carried items
carried (End ∷ items) = carried items

-- where the end lies there, it is the last, and this holds
abbrev pub EndsBy : Type 0 → List Letter → Type 0
EndsBy P [] = Unit {0}
EndsBy P (Area area ∷ items) = EndsBy P items
EndsBy P (End ∷ items) = (items ≡ []) × P

-- the records of whole calls were sent, and nobody may push
abbrev pub IsClosed : List ℕ → List Log → Type 0
IsClosed sent views = ((calls : List Call) × (sent ≡ encoded calls))
    × ((port : ℕ) (v : Log) → get_elem? views port ≡ some v → v.pushes ≢ true)

-- What was sent is what was got, and then what lies there, area by area, and behind all of it perhaps the end.
abbrev pub Relayed : List Letter → List Log → Type 0
Relayed items views = (writer : ℕ) × (reader : ℕ) × (sent : List ℕ) × (got : List ℕ) × (sent ≡ got ++ carried items)
    × AllByRecursion IsLetter items
    × EndsBy (IsClosed sent views) items
    × ((port : ℕ) (v : Log) → get_elem? views port ≡ some v → Fits writer reader sent got port v)

-- an area was got, or the end, behind the records of whole calls
abbrev pub Gets : Log → Letter → Log → Type 0
Gets v (Area area) w = (w ≡ getting area v) × IsSent area
Gets v End w = (calls : List Call) × (w ≡ ending calls v) × (v.got ≡ encoded calls)

module _ {Q A : Type 0} (line : Slotted (Option Letter) (Doing Letter Log) Q A) (pass : Pass Letter Log) where
  -- the pass of this queue that may push, and the one that may pop
  pub record IsWriter : Type 0 where
    pub of : IsPassOf line pass
    pub may : (known pass).pushes ≡ true

  pub record IsReader : Type 0 where
    pub of : IsPassOf line pass
    pub may : (known pass).pops ≡ true
