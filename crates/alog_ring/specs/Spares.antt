-- What lies in the places of a `SwapRing`: always a value. The note of a take is the spare that it brought, and those of all
-- other entries are nothing.
use Rattle.std.specs.Prelude.{◌≡◌, ℕ, ◌+◌, ◌%◌, ◌==◌, ◌⊎◌, if◌then◌else◌, Option, None, Some, List, [], ◌∷◌}
use mathlib.Core.Option as maybe
use lib.ListN.{get_elem?}
use Rattle.alog_core.specs.Queue as queue
use Rattle.alog_core.specs.Queue.{Event, Claim, Write, Grab, Take, Full, Front, Empty, PushBusy, PopBusy, Spent}
use Rattle.alog_core.specs.History.{Entry}

abbrev pub or_else : {N : Type 0} → Option N → Option N → Option N
or_else None o = o
or_else (Some x) o = Some x

module _ {T N : Type 0} where
  -- the note, where the event is a take of this ticket
  abbrev pub note_at : ℕ → Event T → N → Option N
  note_at u (Take t y) note = if t == u then Some note else None
  note_at u (Claim t y) note = None
  note_at u (Write t) note = None
  note_at u (Grab t) note = None
  note_at u (Full t) note = None
  note_at u (Front t) note = None
  note_at u (Empty t) note = None
  note_at u (queue.Idle t) note = None
  note_at u (PushBusy t) note = None
  note_at u (PopBusy t) note = None
  note_at u Spent note = None

  -- the note of the take of a ticket
  abbrev pub note_of : ℕ → List (Entry T N) → Option N
  note_of u [] = None
  note_of u (x ∷ h) = or_else (note_of u h) (note_at u x.event x.note)

-- The spare for a ticket, in a ring of n places: what the take of the ticket a lap before brought, or else what lay in the
-- ticket's place at first.
abbrev pub IsSpare : {T B : Type 0} → List B → ℕ → List (Entry T (Option B)) → ℕ → B → Type 0
IsSpare firsts n h t y =
    ((u : ℕ) × (u + n ≡ t) × (note_of u h ≡ Some (Some y)))
    ⊎ (((u : ℕ) → u + n ≡ t → note_of u h ≡ None) × (get_elem? firsts (t % n) ≡ maybe.some y))
