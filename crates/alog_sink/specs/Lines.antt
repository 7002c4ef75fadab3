-- The lines of a sink: those of the messages that it was given, in order, with a level at least its own, each with the time of
-- the one before it.
use Rattle.std.specs.Prelude.{◌≡◌, ℕ, ◌≤◌, ℤ, Bool, nat_le, if◌then◌else◌, List, [], ◌∷◌, length, Option, None, Some, slice_index_or}
use Rattle.alog_msg.specs.Level.{row_of}
use Rattle.alog_msg.specs.declared.level.Level.{Level}
use Rattle.alog_msg.specs.declared.message.Message.{Message}
use Rattle.alog_pattern.specs.Compiled.{longest}
use Rattle.jiff_core.specs.declared.civil.datetime.DateTime.{DateTime}
use Rattle.jiff.specs.Words.{civil_nanos}
use Rattle.alog_format.specs.Civil.{local_nanos}
use Rattle.alog_format.specs.Line.{IsLine}
use Rattle.alog_format.specs.declared.context.Zone.{Zone}
use Rattle.alog_sink.specs.declared.face.Face.{Face}

-- a sink of this level takes messages of that one
abbrev pub admits : Level → Level → Bool
admits own level = nat_le (row_of own).number (row_of level).number

-- those messages that a sink of this level takes, in order
abbrev pub admitted : Level → List Message → List Message
admitted own [] = []
admitted own (m ∷ ms) = if admits own m.level then m ∷ admitted own ms else admitted own ms

-- the name of a logger by its number, the empty one past the last
abbrev pub name_of : List (List ℕ) → ℕ → List ℕ
name_of names number = slice_index_or names number []

-- the bytes are the message's line behind one of the previous time
abbrev pub IsLineOf : Face → Option ℤ → Message → List ℕ → Type 0
IsLineOf face previous m bytes = IsLine face.context face.pattern.items (name_of face.names m.logger) m previous bytes

-- what writing a line asks: a text within the pattern's limit, and room for the longest line
abbrev pub MayWrite : Face → Message → ℕ → Type 0
MayWrite face m capacity = (length m.text ≤ face.pattern.text_limit) × (longest face.pattern ≤ capacity)

-- a face writes each text of at most so many bytes into a buffer of this capacity
abbrev pub FaceSuits : ℕ → ℕ → Face → Type 0
FaceSuits limit capacity face = (limit ≤ face.pattern.text_limit) × (longest face.pattern ≤ capacity)

-- a line, and the date and time of day that a clock showed at its message's time
pub record Written : Type 0 where
  pub at : DateTime
  pub line : List ℕ

-- a clock of the zone shows this at the message's time
abbrev pub IsShownTo : Zone → Message → DateTime → Type 0
IsShownTo zone m at = civil_nanos at ≡ local_nanos zone m.time

abbrev pub IsWrittenOf : Face → Option ℤ → Message → Written → Type 0
IsWrittenOf face previous m w = IsLineOf face previous m w.line × IsShownTo face.context.zone m w.at

-- these are the lines of these messages, in order: that of the first behind the previous time, and each other one behind the
-- time of the message before it
abbrev pub AreWrittenOf : Face → Option ℤ → List Message → List Written → Type 0
AreWrittenOf face previous [] [] = Unit {0}
AreWrittenOf face previous (m ∷ ms) (w ∷ ws) = IsWrittenOf face previous m w × AreWrittenOf face (Some m.time) ms ws
AreWrittenOf face previous _ _ = ⊥

-- the time of the last of some messages, or else the previous time
abbrev pub last_time : Option ℤ → List Message → Option ℤ
last_time previous [] = previous
last_time previous (m ∷ ms) = last_time (Some m.time) ms

-- the lines of a sink that was given these messages, and what is the time of the last of them that it took
abbrev pub AreLines : Face → List Message → List Written → Type 0
AreLines face messages ws = AreWrittenOf face None (admitted face.level messages) ws

abbrev pub previous_of : Level → List Message → Option ℤ
previous_of level messages = last_time None (admitted level messages)

-- the lines alone
abbrev pub lines_of : List Written → List (List ℕ)
lines_of [] = []
lines_of (w ∷ ws) = w.line ∷ lines_of ws
