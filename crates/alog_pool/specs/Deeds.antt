-- The turns of a worker: those that are due for the items that it took, and those that its seats made.
use Rattle.std.specs.Prelude.{◌≡◌, ◌⊎◌, ℕ, ◌+◌, ◌-◌, ◌^◌, ◌==◌, if◌then◌else◌, min, List, [], ◌∷◌, ◌++◌, map, Option, Some, None}
use Rattle.alog_core.specs.Queue.{last}
use Rattle.alog_format.specs.Buffer.{Buffer}
use Rattle.alog_lane.specs.Seats.{Entry}
use Rattle.alog_lane.specs.Turns.{Turned}
use Rattle.alog_msg.specs.declared.item.Item.{Item}
use Rattle.alog_msg.specs.declared.item.Item.TheVariants.{Text, Flush, Stop}
use Rattle.alog_pool.specs.SinkSeat.{Answer, SinkSeatView, fault_in}
use Rattle.alog_registry.specs.Listed.{spec_at}
use Rattle.alog_registry.specs.Work.{turns_of}
use Rattle.alog_registry.specs.declared.logger.Logger.{Logger}
use Rattle.alog_registry.specs.declared.logger.Spec.{Spec}
use Rattle.alog_registry.specs.declared.work.SinkDeed.{SinkDeed}
use Rattle.alog_registry.specs.declared.work.SinkDeed.TheVariants as deed
use Rattle.alog_registry.specs.declared.work.SinkTurn.{SinkTurn}

-- A turn that is due: the number of its sink, its tag, and the item that the sink is given.
pub record Due : Type 0 where
  pub sink : ℕ
  pub tag : ℕ
  pub item : Item

-- what a deed gives a sink, in the work on an item of the logger of this number
abbrev pub given_by : ℕ → Item → SinkDeed → Item
given_by logger x deed.Take = x
given_by logger x deed.Flush = Flush logger

abbrev pub due_by : ℕ → Item → SinkTurn → Due
due_by logger x t = record { sink = t.sink; tag = t.tag; item = given_by logger x t.deed }

-- the turns of the work on an item of this logger, which was set up so; where there is no such logger, none
abbrev pub dues_by : Option Spec → ℕ → ℕ → Item → List Due
dues_by None logger ticket x = []
dues_by (Some spec) logger ticket x = map (λ (t : SinkTurn). due_by logger x t) (turns_of spec ticket x)

-- the turns of the work on an item that was taken under this ticket
abbrev pub dues_of : List Logger → ℕ → Item → List Due
dues_of loggers ticket (Text m) = dues_by (spec_at loggers m.logger) m.logger ticket (Text m)
dues_of loggers ticket (Flush n) = dues_by (spec_at loggers n) n ticket (Flush n)
dues_of loggers ticket Stop = []

-- the turns of the work on each of these, one after another
abbrev pub all_dues : List Logger → List (ℕ × Item) → List Due
all_dues loggers [] = []
all_dues loggers (p ∷ ps) = dues_of loggers p.0 p.1 ++ all_dues loggers ps

-- those on the sink of this number, by their tags and items
abbrev pub dues_on : ℕ → List Due → List (ℕ × Item)
dues_on s [] = []
dues_on s (d ∷ ds) = if d.sink == s then (d.tag, d.item) ∷ dues_on s ds else dues_on s ds

-- a flush that a worker made of its own accord, before it rested: its tag is one that no item has
abbrev pub IsOwnFlush : Turned Item Buffer Answer → Type 0
IsOwnFlush d = (d.tag ≡ last) × (d.item ≡ Flush 0)

-- turns of exactly these tags and items, in this order, and beside them workers' own flushes and nothing else
abbrev pub HasDone : List (Entry (Turned Item Buffer Answer)) → List (ℕ × Item) → Type 0
HasDone [] turns = turns ≡ []
HasDone (x ∷ h) turns = (IsOwnFlush x.deed × HasDone h turns)
    ⊎ ((rest : List (ℕ × Item)) × (turns ≡ (x.deed.tag, x.deed.item) ∷ rest) × HasDone h rest)

-- how many of them were answered by a fault
abbrev pub faults_in : List (Entry (Turned Item Buffer Answer)) → ℕ
faults_in [] = 0
faults_in (x ∷ h) = fault_in x.deed.reply + faults_in h

module _ {S : Type 0} where
  -- the place counts, up to 2^64 - 1, those of its seat's own turns that were answered by a fault
  abbrev pub IsCounted : SinkSeatView S → Type 0
  IsCounted b = b.faults ≡ min (faults_in b.seat.known.own) (2 ^ 64 - 1)

  -- The seat made exactly turns of these tags and items, in this order, and own flushes. A count of its faults stays one.
  pub record HasMade (old new : SinkSeatView S) (turns : List (ℕ × Item)) : Type 0 where
    pub number : new.seat.known.seat ≡ old.seat.known.seat
    pub entries : List (Entry (Turned Item Buffer Answer))
    pub own : new.seat.known.own ≡ old.seat.known.own ++ entries
    pub done : HasDone entries turns
    pub counted : IsCounted old → IsCounted new

  -- At each of these places, of which the first is that of the sink of this number, the seat made exactly the turns that were
  -- due on its sink, and own flushes.
  abbrev pub HaveMade : ℕ → List (SinkSeatView S) → List (SinkSeatView S) → List Due → Type 0
  HaveMade s [] [] dues = Unit {0}
  HaveMade s (b ∷ bs) (c ∷ cs) dues = HasMade b c (dues_on s dues) × HaveMade (s + 1) bs cs dues
  HaveMade s [] (c ∷ cs) dues = ⊥
  HaveMade s (b ∷ bs) [] dues = ⊥
