-- The turns of sinks of both kinds.
use Rattle.std.specs.Prelude.{◌≡◌, ◌⊎◌, ℕ, Bool, true, false, Result, Ok, Err}
use Rattle.std.specs.List.{All}
use Rattle.alog_format.specs.Buffer.{Buffer}
use Rattle.alog_msg.specs.declared.item.Item.{Item}
use Rattle.alog_msg.specs.declared.item.Item.TheVariants.{Text, Flush, Stop}
use Rattle.alog_msg.specs.declared.message.Message.{Message}
use Rattle.alog_sink.specs.Files.{Files}
use Rattle.alog_sink.specs.Lines.{FaceSuits, MayWrite, admits}
use Rattle.alog_sink.specs.Turn.{Answer, Takes, Flushes, FanTakes, FanFlushes}
use Rattle.alog_sink.specs.declared.face.Face.{Face}
use Rattle.alog_sink.specs.declared.leaf.SinkError.{SinkError}
use Rattle.alog_sink.specs.declared.turn.Served.{Served}
use Rattle.alog_sink.specs.declared.turn.Served.TheVariants.{Flushed, Taken as Took}
use Rattle.alog_sink.specs.declared.sink.Sink.{Sink}
use Rattle.alog_sink.specs.declared.sink.Sink.TheVariants.{Leaf, Fan}

-- each face of a sink is such: its own, or those of a fan's members
abbrev pub EachFace : {S : Type 0} → (Face → Type 0) → Sink S → Type 0
EachFace IsSuch (Leaf l) = IsSuch l.face
EachFace IsSuch (Fan f) = All (λ l. IsSuch l.face) f.members

-- a sink may be given the message with a buffer of this capacity
abbrev pub MayTake : {S : Type 0} → Sink S → Message → ℕ → Type 0
MayTake sink m capacity = EachFace (λ face. MayWrite face m capacity) sink

-- a sink writes each text of at most so many bytes into a buffer of this capacity
abbrev pub Suits : {S : Type 0} → ℕ → ℕ → Sink S → Type 0
Suits limit capacity sink = EachFace (FaceSuits limit capacity) sink

-- a sink writes no line of the message: it does not pass the level, or a sink that is no fan is broken
abbrev pub IsIdle : {S : Type 0} → Sink S → Message → Type 0
IsIdle (Leaf l) m = (admits l.face.level m.level ≡ false) ⊎ (l.broken ≡ true)
IsIdle (Fan f) m = admits f.level m.level ≡ false

module _ {S : Type 0} (tells : Bool) (files : S → Files) (failures : S → ℕ) where
  -- A sink is given a message.
  abbrev pub SinkTakes : Sink S → Message → Answer → Sink S → Type 0
  SinkTakes (Leaf o) m answer (Leaf n) = Takes tells files failures o m answer n
  SinkTakes (Fan o) m answer (Fan n) = FanTakes tells files failures o m answer n
  SinkTakes _ m answer _ = ⊥

  -- A sink is flushed.
  abbrev pub SinkFlushes : Sink S → Result Unit SinkError → Sink S → Type 0
  SinkFlushes (Leaf o) answer (Leaf n) = Flushes tells files failures o answer n
  SinkFlushes (Fan o) answer (Fan n) = FanFlushes tells files failures o answer n
  SinkFlushes _ answer _ = ⊥

-- what a turn answers to a text, and to a flush
abbrev pub as_taken : Answer → Result Served SinkError
as_taken (Ok taken) = Ok (Took taken)
as_taken (Err e) = Err e

abbrev pub as_flushed : Result Unit SinkError → Result Served SinkError
as_flushed (Ok u) = Ok Flushed
as_flushed (Err e) = Err e

-- a sink may have a turn at this item with this buffer
abbrev pub MayTurn : {S : Type 0} → Sink S → Item → Buffer → Type 0
MayTurn sink (Text m) line = MayTake sink m line.capacity
MayTurn sink (Flush logger) line = Unit {0}
MayTurn sink Stop line = ⊥

module _ {S : Type 0} (tells : Bool) (files : S → Files) (failures : S → ℕ) where
  -- A turn: a text is taken, a flush flushes. The buffer's capacity stays, and where no line is written the buffer is as it was.
  abbrev pub Turns : Sink S → Buffer → Item → Result Served SinkError → Sink S → Buffer → Type 0
  Turns old line (Text m) reply new after = (answer : Answer) × SinkTakes tells files failures old m answer new
      × (reply ≡ as_taken answer) × (after.capacity ≡ line.capacity) × (IsIdle old m → after ≡ line)
  Turns old line (Flush logger) reply new after = (answer : Result Unit SinkError) × SinkFlushes tells files failures old answer new
      × (reply ≡ as_flushed answer) × (after ≡ line)
  Turns old line Stop reply new after = ⊥
