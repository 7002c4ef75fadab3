-- What a push and a pop promise of the entries that they make.
use Rattle.std.specs.Prelude.{ℕ, ◌∷◌, []}
use Rattle.alog_core.specs.Queue.{Event, Claim, Write, Grab, Take, Front}
use Rattle.alog_core.specs.History.{Entry}
use Rattle.alog_ring.specs.Known.{Known}
use Rattle.alog_ring.specs.Made.{Made, EndsWith, entry, Adds}
use Rattle.alog_ring.specs.Kinds.{no_note}
pub use Rattle.alog_ring.specs.Known.{IsPassOf}

-- In a ring of any kind of place: the note of a take tells what it brought, and those of all other entries are blank.
module _ {T N : Type 0} (blank : N) where
  -- the pass claimed and wrote the ticket, with this item
  abbrev pub PushedAs : Known T N → Known T N → ℕ → T → Type 0
  PushedAs old new t x = Made old new (entry blank old (Claim t x) ∷ entry blank old (Write t) ∷ [])
      × EndsWith new (entry blank old (Write t))

  -- the pass grabbed the ticket and took this item, with this note
  abbrev pub PoppedAs : N → Known T N → Known T N → ℕ → T → Type 0
  PoppedAs note old new t x = Made old new (entry blank old (Grab t) ∷ entry note old (Take t x) ∷ [])
      × EndsWith new (entry note old (Take t x))

  -- the pass answered this and did nothing else
  abbrev pub AnsweredAs : Known T N → Known T N → Event T → Type 0
  AnsweredAs old new e = Adds blank old new e

  -- the pass found the ticket unwritten at the front, and when it looked at the end then, it answered this
  abbrev pub FoundUnwrittenAs : Known T N → Known T N → ℕ → Event T → Type 0
  FoundUnwrittenAs old new t e = Made old new (entry blank old (Front t) ∷ entry blank old e ∷ [])
      × EndsWith new (entry blank old e)

-- In a `Ring`, whose entries have no notes: the item is the value.
module _ {T : Type 0} where
  -- an entry of the pass
  abbrev pub by : Known T no_note → Event T → Entry T no_note
  by k e = entry tt k e

  abbrev pub Pushed : Known T no_note → Known T no_note → ℕ → T → Type 0
  Pushed old new t x = PushedAs tt old new t x

  abbrev pub Popped : Known T no_note → Known T no_note → ℕ → T → Type 0
  Popped old new t x = PoppedAs tt tt old new t x

  abbrev pub Answered : Known T no_note → Known T no_note → Event T → Type 0
  Answered old new e = AnsweredAs tt old new e

  abbrev pub FoundUnwritten : Known T no_note → Known T no_note → ℕ → Event T → Type 0
  FoundUnwritten old new t e = FoundUnwrittenAs tt old new t e
