-- A turn in which the store of a sink refuses at once: nothing of the line is written, and the sink is broken from then on.
use Rattle.std.specs.Prelude.{◌≡◌, ℕ, ◌+◌, ◌&&◌, not, Bool, true, false, if◌then◌else◌, Option, Some, None, List, [], ◌∷◌, map, slice_get, slice_set}
use Rattle.alog_core.specs.World.{is_idle, round_of}
use Rattle.alog_msg.specs.declared.item.Item.{Item}
use Rattle.alog_msg.specs.declared.item.Item.TheVariants.{Text}
use Rattle.alog_msg.specs.declared.message.Message.{Message}
use Rattle.alog_registry.specs.declared.work.SinkDeed.TheVariants as does
use Rattle.alog_registry.specs.declared.work.SinkTurn.{SinkTurn}
use Rattle.alog_sink.specs.Lines.{admits}
use Rattle.alog_sink.specs.Turn.{FanView, LeafView}
use Rattle.alog_sink.specs.declared.sink.Sink.{Sink}
use Rattle.alog_sink.specs.declared.sink.Sink.TheVariants.{Leaf, Fan}
use Rattle.alog_system.specs.Roster.{turns_for}
use Rattle.alog_system.specs.System.{SystemView, duty_of, with_duty, with_outputs}
use Rattle.alog_system.specs.declared.duty.Duty.TheVariants.{Serves}
use Rattle.alog_system.specs.declared.stepped.Turn.{Turn}
use Rattle.alog_system.specs.declared.stepped.Turn.TheVariants.{Fault}

-- a leaf is to write a line of the message
abbrev pub writes : {S : Type 0} → Message → LeafView S → Bool
writes m l = admits l.face.level m.level && not l.broken

abbrev pub any_writes : {S : Type 0} → Message → List (LeafView S) → Bool
any_writes m [] = false
any_writes m (l ∷ leaves) = if writes m l then true else any_writes m leaves

-- the leaf once its store refused
abbrev pub broken_leaf : {S : Type 0} → LeafView S → LeafView S
broken_leaf l = record { face = l.face; target = l.target; store = l.store; broken = true; previous = l.previous }

abbrev pub refused_leaf : {S : Type 0} → Message → LeafView S → LeafView S
refused_leaf m l = if writes m l then broken_leaf l else l

abbrev pub refused_fan : {S : Type 0} → Message → FanView S → FanView S
refused_fan m f = record { level = f.level; members = map (refused_leaf m) f.members }

-- the sink whose stores refused, where it is to write a line
abbrev pub refused_sink : {S : Type 0} → Message → Sink S → Option (Sink S)
refused_sink m (Leaf l) = if writes m l then Some (Leaf (broken_leaf l)) else None
refused_sink m (Fan f) = if admits f.level m.level && any_writes m f.members then Some (Fan (refused_fan m f)) else None

-- the sink of a turn
abbrev pub sink_of : {S : Type 0} → SystemView S → Option SinkTurn → Option (Sink S)
sink_of v None = None
sink_of v (Some t) = slice_get v.outputs.sinks t.sink

-- the worker's next turn is a text's, and each store that is to write its line refuses
pub record Refuses {S : Type 0} (v : SystemView S) (a : ℕ) (told : Turn) (next : SystemView S) : Type 0 where
  pub idle : is_idle (round_of v.desk.world a) ≡ true
  pub ticket : ℕ
  pub message : Message
  pub done : ℕ
  pub serves : duty_of v a ≡ Serves ticket (Text message) done
  pub turn : SinkTurn
  pub is : slice_get (turns_for v.roster ticket (Text message)) done ≡ Some turn
  pub takes : turn.deed ≡ does.Take
  pub before : Sink S
  pub after : Sink S
  pub there : slice_get v.outputs.sinks turn.sink ≡ Some before
  pub refused : refused_sink message before ≡ Some after
  pub says : told ≡ Fault turn.tag turn.sink
  pub stays : next
      ≡ with_duty (with_outputs v (record { sinks = slice_set v.outputs.sinks turn.sink after; text_limit = v.outputs.text_limit })) a
      (Serves ticket (Text message) (done + 1))

-- the worker's next turn is on no sink
pub record HasNoSink {S : Type 0} (v : SystemView S) (a : ℕ) : Type 0 where
  pub idle : is_idle (round_of v.desk.world a) ≡ true
  pub ticket : ℕ
  pub item : Item
  pub done : ℕ
  pub serves : duty_of v a ≡ Serves ticket item done
  pub none : sink_of v (slice_get (turns_for v.roster ticket item) done) ≡ None
