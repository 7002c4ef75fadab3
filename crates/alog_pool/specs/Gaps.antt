-- What a worker that tells gaps writes beside the items that it takes: where items are missing in front of a text, since others took
-- them, a text that says how many.
use Rattle.std.specs.Prelude.{◌≡◌, ◌⊎◌, ℕ, zero, suc, ◌+◌, ◌-◌, ◌^◌, ◌≤◌, ◌&&◌, ◌==◌, if◌then◌else◌, List, [], ◌∷◌, ◌++◌, Option, Some, None, codes, min}
use Rattle.std.specs.Fmt.{decimal}
use Rattle.alog_msg.specs.declared.item.Item.{Item}
use Rattle.alog_msg.specs.declared.item.Item.TheVariants.{Text, Flush, Stop}
use Rattle.alog_msg.specs.declared.level.Level.TheVariants.{Warning}
use Rattle.alog_msg.specs.declared.limits.TheConstants.{TEXT_LIMIT_MIN}
use Rattle.alog_msg.specs.declared.message.Message.{Message}
use Rattle.alog_pool.specs.declared.gaps.Gaps.{Gaps}
use Rattle.alog_pool.specs.declared.setup.Setup.{Setup}
use Rattle.alog_pool.specs.declared.shared.Shared.{Shared}

-- the text that says that so many are missing
abbrev pub gap_text : ℕ → List ℕ
gap_text n = decimal n ++ codes " lines are missing here"

-- the item that says so in front of this message: a warning of its logger, its time and its thread
abbrev pub gap_item : ℕ → Message → Item
gap_item n m = Text (record { logger = m.logger; level = Warning; time = m.time; thread = m.thread; text = gap_text n; source = None })

-- what says in front of this message, under its ticket, that so many are missing; where none are, nothing does
abbrev pub gap_of : ℕ → ℕ → Message → List (ℕ × Item)
gap_of zero t m = []
gap_of (suc n) t m = (t, gap_item (suc n) m) ∷ []

-- What is written in front of an item that was taken under this ticket, by who tells gaps and counted up to the next one; who tells
-- none writes nothing. Only in front of a text anything is.
abbrev pub gap_at : Option ℕ → ℕ → Item → List (ℕ × Item)
gap_at None t x = []
gap_at (Some next) t (Text m) = gap_of (t - next) t m
gap_at (Some next) t (Flush n) = []
gap_at (Some next) t Stop = []

-- the ticket behind another; tickets end at 2^62
abbrev pub ticket_behind : ℕ → ℕ
ticket_behind t = min (t + 1) (2 ^ 64 - 1)

-- Up to where is counted behind that item. A flush is counted, and what is missing in front of it is told before the next text.
abbrev pub next_after : Option ℕ → ℕ → Item → Option ℕ
next_after None t x = None
next_after (Some next) t (Text m) = Some (ticket_behind t)
next_after (Some next) t (Flush n) = Some (ticket_behind next)
next_after (Some next) t Stop = Some next

-- these items, and in front of each text what says how many are missing there
abbrev pub with_gaps : Option ℕ → List (ℕ × Item) → List (ℕ × Item)
with_gaps next [] = []
with_gaps next (p ∷ ps) = gap_at next p.0 p.1 ++ p ∷ with_gaps (next_after next p.0 p.1) ps

-- up to where is counted behind all of these
abbrev pub next_behind : Option ℕ → List (ℕ × Item) → Option ℕ
next_behind next [] = next
next_behind next (p ∷ ps) = next_behind (next_after next p.0 p.1) ps

-- up to where a worker counted that tells gaps
abbrev pub next_of : Option Gaps → Option ℕ
next_of None = None
next_of (Some g) = Some g.next

-- what it writes into takes its texts, and so does a queue of this text limit
abbrev pub CanTell : ℕ → Option Gaps → Type 0
CanTell limit None = Unit {0}
CanTell limit (Some g) = (g.block.limit ≡ TEXT_LIMIT_MIN) × (TEXT_LIMIT_MIN ≤ limit)

-- a pool that tells gaps does so from its queue's first ticket on
abbrev pub CountsFromFirst : Shared → Type 0
CountsFromFirst shared = (shared.gaps ≡ None) ⊎ (shared.gaps ≡ Some shared.ring.ring.first)

-- From which ticket on the worker of a pool of this setup counts: it tells gaps where it is to, and is the only one.
abbrev pub told_from : {S : Type 0} → Setup S → Option ℕ
told_from setup = if setup.tells_gaps && (setup.workers == 1) then Some setup.first else None
