-- What is seen of a store and of its drain.
use Rattle.std.specs.Prelude.{◌≡◌, ℕ, ◌+◌, ◌≤◌, Bool, true, false, List, [], ◌∷◌, ◌++◌, length, Option, Some, None}
use Rattle.alog_outbox.specs.Calls.{after, encoded, found_in, record_of}
use Rattle.alog_outbox.specs.declared.TheConstants.{AREA}
use Rattle.alog_outbox.specs.declared.call.Call.{Call}
use Rattle.alog_outbox.specs.declared.found.FoundFile.{FoundFile}
use Rattle.alog_sink.specs.Files.{Files}
use Rattle.atomic_table.specs.Seated.{TableId}

-- Of a store: the calls that it was told, the latest first; the bytes that it has sent, and the area in hand, where there is one; the files that were
-- found before; how many calls have failed; and its queue.
pub record OutboxView : Type 0 where
  pub calls : List Call
  pub sent : List ℕ
  pub hand : Option (List ℕ)
  pub found : List FoundFile
  pub failures : ℕ
  pub line : TableId

-- of a drain: the bytes that it has taken; the calls that its store was told in its life, where that has ended and all was taken; and its queue
pub record DrainView : Type 0 where
  pub got : List ℕ
  pub told : Option (List Call)
  pub line : TableId

-- its store has ended, and what it has taken are the records of all that the store was told
abbrev pub HasAll : DrainView → Type 0
HasAll d = (calls : List Call) × (d.told ≡ Some calls) × (d.got ≡ encoded calls)

-- it is a store over the same files, at the same queue
abbrev pub IsSameOutbox : OutboxView → OutboxView → Type 0
IsSameOutbox old new = (new.found ≡ old.found) × (new.line ≡ old.line)

-- its files
abbrev pub files_of : OutboxView → Files
files_of o = after o.calls (found_in o.found)

-- there is an area in hand, with room for so many bytes
abbrev pub HasRoom : Option (List ℕ) → ℕ → Type 0
HasRoom hand size = (area : List ℕ) × (hand ≡ Some area) × (length area + size ≤ AREA)

-- the bytes of the area in hand, where there is one
abbrev pub bytes_in : Option (List ℕ) → List ℕ
bytes_in None = []
bytes_in (Some area) = area

abbrev pub has_some : List Call → Bool
has_some [] = false
has_some (_ ∷ _) = true

-- the calls, and the bytes, after a call that was written down, or was not
abbrev pub calls_by : Bool → Call → List Call → List Call
calls_by true c cs = c ∷ cs
calls_by false c cs = cs

abbrev pub bytes_by : Bool → Call → List ℕ → List ℕ
bytes_by true c bytes = bytes ++ record_of c
bytes_by false c bytes = bytes
