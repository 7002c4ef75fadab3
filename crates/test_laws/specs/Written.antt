-- What a sink holds of one message.
use Rattle.std.specs.Prelude.{◌≡◌, ℕ, true, ℤ, Option, List, [], ◌∷◌, ◌++◌, Some, slice_get}
use Rattle.alog_lane.specs.Calls.{LaneId}
use Rattle.alog_msg.specs.declared.message.Message.{Message}
use Rattle.alog_pool.specs.OneWorker.{HoldsMore}
use Rattle.alog_sink.specs.Files.{Files, bytes_of}
use Rattle.alog_sink.specs.Lines.{IsLineOf, admits}
use Rattle.alog_sink.specs.Turn.{LeafView, StandsFor}
use Rattle.alog_sink.specs.declared.face.Face.{Face}
use Rattle.alog_sink.specs.declared.sink.Sink.{Sink}
use Rattle.alog_sink.specs.declared.sink.Sink.TheVariants.{Leaf}
use Rattle.alog_sink.specs.declared.target.Target.TheVariants.{Memory}

-- a file ends with the line of a message, behind one of some time or none
pub record EndsInLine (face : Face) (files : Files) (file : List ℕ) (m : Message) : Type 0 where
  pub before : List ℕ
  pub line : List ℕ
  pub bytes : bytes_of files file ≡ before ++ line
  pub previous : Option ℤ
  pub is_line : IsLineOf face previous m line

module _ {S : Type 0} (files : S → Files) where
  -- A memory sink, whatever files and messages it stood for, became one whose file ends with the line of this message, if that passes
  -- the level.
  abbrev pub EndsWith : Sink S → Sink S → Message → Type 0
  EndsWith first last m = (old new : LeafView S) (file : List ℕ) (opening : Files) (before : List Message) → first ≡ Leaf old → last ≡ Leaf new
      → old.target ≡ Memory (record { file = file }) → StandsFor files old opening before → admits old.face.level m.level ≡ true
      → EndsInLine old.face (files new.store) file m

  -- the sink of this number, which is what it became from the one that its lane was made with, holds exactly this message more, and where
  -- it has one file, that ends with its line
  abbrev pub HoldsAt : ℕ → List (LaneId (Sink S)) → List (Sink S) → Message → Type 0
  HoldsAt n lanes sinks m = (l : LaneId (Sink S)) (k : Sink S) → slice_get lanes n ≡ Some l → slice_get sinks n ≡ Some k
      → HoldsMore files l.first k (m ∷ []) × EndsWith l.first k m
