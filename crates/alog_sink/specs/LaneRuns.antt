-- Sinks under locks, over whole histories of turns.
use Rattle.std.specs.Prelude.{◌≡◌, ℕ, Bool, true, is_ok, List, [], ◌∷◌, ◌++◌, map, Result}
use Rattle.std.specs.List.{All}
use Rattle.alog_format.specs.Buffer.{Buffer}
use Rattle.alog_lane.specs.Seats.{Entry}
use Rattle.alog_lane.specs.Turns.{Turned, Leads}
use Rattle.alog_msg.specs.declared.item.Item.{Item}
use Rattle.alog_msg.specs.declared.item.Item.TheVariants.{Text, Flush, Stop}
use Rattle.alog_msg.specs.declared.message.Message.{Message}
use Rattle.alog_sink.specs.Files.{Files}
use Rattle.alog_sink.specs.Lines.{admitted}
use Rattle.alog_sink.specs.Sinks.{Turns}
use Rattle.alog_sink.specs.Turn.{LeafView, FanView, StandsFor}
use Rattle.alog_sink.specs.declared.leaf.SinkError.{SinkError}
use Rattle.alog_sink.specs.declared.sink.Sink.TheVariants.{Leaf, Fan}
use Rattle.alog_sink.specs.declared.turn.Served.{Served}

-- the turns of a lane over a sink
abbrev pub History : Type 0
History = List (Entry (Turned Item Buffer (Result Served SinkError)))

-- the messages of the texts among some items, in order
abbrev pub with_text : Item → List Message → List Message
with_text (Text m) messages = m ∷ messages
with_text (Flush logger) messages = messages
with_text Stop messages = messages

abbrev pub texts_of : History → List Message
texts_of [] = []
texts_of (x ∷ history) = with_text x.deed.item (texts_of history)

-- no turn met a fault
abbrev pub AreServed : History → Type 0
AreServed history = All (λ x. is_ok x.deed.reply ≡ true) history

-- the files at the start, and the messages, that each of some sinks stands for
abbrev pub Stood : Type 0
Stood = Files × List Message

abbrev pub AllStand : {S : Type 0} → (S → Files) → List (LeafView S) → List Stood → Type 0
AllStand files [] [] = Unit {0}
AllStand files (l ∷ leaves) (s ∷ stood) = StandsFor files l s.0 s.1 × AllStand files leaves stood
AllStand files _ _ = ⊥

module _ {S : Type 0} (tells : Bool) (files : S → Files) (failures : S → ℕ) where
  -- Turns without a fault lead from a sink that stands for some messages to one that stands for these and then the texts
  -- of the turns, in the order of the lock.
  abbrev pub LaneWritesTexts : Type 0
  LaneWritesTexts = (old new : LeafView S) (history : History) (opening : Files) (messages : List Message)
      → tells ≡ true → Leads (Turns tells files failures) (Leaf old) history (Leaf new) → AreServed history
      → StandsFor files old opening messages → StandsFor files new opening (messages ++ texts_of history)

  -- The same of a fan, member by member: each stands for those of the texts more that pass the fan's level.
  abbrev pub LaneFansTexts : Type 0
  LaneFansTexts = (old new : FanView S) (history : History) (stood : List Stood)
      → tells ≡ true → Leads (Turns tells files failures) (Fan old) history (Fan new) → AreServed history
      → AllStand files old.members stood
      → AllStand files new.members (map (λ s. (s.0, s.1 ++ admitted old.level (texts_of history))) stood)
