-- The sinks of a system, and a worker's turn on one.
use Rattle.std.specs.Prelude.{◌≡◌, ℕ, ◌≤◌, Bool, List, length, slice_get, slice_set, Some, Result, Ok, Err}
use Rattle.std.specs.List.{All}
use Rattle.alog_msg.specs.declared.item.Item.{Item}
use Rattle.alog_msg.specs.declared.item.Item.TheVariants as item
use Rattle.alog_msg.specs.declared.message.Message.{Message}
use Rattle.alog_msg.specs.declared.limits.TheConstants.{TEXT_LIMIT_MIN, TEXT_LIMIT_MAX}
use Rattle.alog_pattern.specs.declared.patterns.TheConstants.{LINE_MAX}
use Rattle.alog_registry.specs.declared.work.SinkDeed.{SinkDeed}
use Rattle.alog_registry.specs.declared.work.SinkDeed.TheVariants as deed
use Rattle.alog_registry.specs.declared.work.SinkTurn.{SinkTurn}
use Rattle.alog_sink.specs.Files.{Files}
use Rattle.alog_sink.specs.Sinks.{MayTake, SinkTakes, SinkFlushes, Suits}
use Rattle.alog_sink.specs.Turn.{Answer}
use Rattle.alog_sink.specs.declared.leaf.SinkError.{SinkError}
use Rattle.alog_sink.specs.declared.leaf.Taken.TheVariants as taken
use Rattle.alog_sink.specs.declared.sink.Sink.{Sink}
use Rattle.alog_system.specs.declared.stepped.Turn.{Turn}
use Rattle.alog_system.specs.declared.stepped.Turn.TheVariants.{Line, Below, Fault, Flushed}

-- What callers see of them: the sinks by number, and the most bytes of a text.
pub record OutputsView (S : Type 0) : Type 0 where
  pub sinks : List (Sink S)
  pub text_limit : ℕ

-- each of these sinks suits texts of at most so many bytes, and a buffer of this capacity
pub record AllSuit {S : Type 0} (limit capacity : ℕ) (all : List (Sink S)) : Type 0 where
  pub least : TEXT_LIMIT_MIN ≤ limit
  pub most : limit ≤ TEXT_LIMIT_MAX
  pub each : All (λ s. Suits limit capacity s) all

-- each suits a buffer that holds the longest line of any pattern
abbrev pub AreSuited : {S : Type 0} → ℕ → List (Sink S) → Type 0
AreSuited limit all = AllSuit limit LINE_MAX all

-- the text of an item keeps to the limit
abbrev pub IsShort : ℕ → Item → Type 0
IsShort limit (item.Text m) = length m.text ≤ limit
IsShort limit (item.Flush n) = Unit {0}
IsShort limit item.Stop = Unit {0}

-- a sink may have a turn at an item with a buffer of this capacity
abbrev pub MayMake : {S : Type 0} → Sink S → Item → ℕ → Type 0
MayMake s (item.Text m) capacity = MayTake s m capacity
MayMake s (item.Flush n) capacity = Unit {0}
MayMake s item.Stop capacity = Unit {0}

-- how a turn on a sink is told: by its ticket, the sink's number, and the sink's answer
abbrev pub told_of_text : SinkTurn → Answer → Turn
told_of_text t (Ok taken.Written) = Line t.tag t.sink
told_of_text t (Ok taken.Below) = Below t.tag t.sink
told_of_text t (Err e) = Fault t.tag t.sink

abbrev pub told_of_flush : SinkTurn → Result Unit SinkError → Turn
told_of_flush t (Ok u) = Flushed t.tag t.sink
told_of_flush t (Err e) = Fault t.tag t.sink

module _ {S : Type 0} (tells : Bool) (files : S → Files) (failures : S → ℕ) where
  -- the sink takes the text, or is flushed
  abbrev pub TextTurn : SinkTurn → Message → Sink S → Turn → Sink S → Type 0
  TextTurn t m old told new = (answer : Answer) × SinkTakes tells files failures old m answer new × (told ≡ told_of_text t answer)

  abbrev pub FlushTurn : SinkTurn → Sink S → Turn → Sink S → Type 0
  FlushTurn t old told new = (answer : Result Unit SinkError) × SinkFlushes tells files failures old answer new × (told ≡ told_of_flush t answer)

  -- A turn on one sink, at this item: a text is taken, all else flushes.
  abbrev pub DoesTurn : SinkTurn → SinkDeed → Item → Sink S → Turn → Sink S → Type 0
  DoesTurn t deed.Take (item.Text m) old told new = TextTurn t m old told new
  DoesTurn t deed.Take (item.Flush n) old told new = FlushTurn t old told new
  DoesTurn t deed.Take item.Stop old told new = FlushTurn t old told new
  DoesTurn t deed.Flush i old told new = FlushTurn t old told new

  -- The sink of the turn's number makes it, and the others stay.
  pub record Turns (old : OutputsView S) (t : SinkTurn) (i : Item) (told : Turn) (new : OutputsView S) : Type 0 where
    pub before : Sink S
    pub after : Sink S
    pub there : slice_get old.sinks t.sink ≡ Some before
    pub turn : DoesTurn t t.deed i before told after
    pub others : new ≡ record { sinks = slice_set old.sinks t.sink after; text_limit = old.text_limit }
