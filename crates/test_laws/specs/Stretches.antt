-- What a sink holds of the lines that a pipe logged, where some are missing: in place of those that follow each other a line says how many.
use Rattle.std.specs.Prelude.{◌≡◌, ◌⊎◌, ◌<◌, ◌+◌, ℕ, ℤ, None, Some, List, [], ◌∷◌, ◌++◌, length, slice_get}
use Rattle.std.specs.List.{flat_map}
use Rattle.alog_lines.specs.Pieces.{Piece, pieces_of}
use Rattle.alog_msg.specs.declared.level.Level.{Level}
use Rattle.alog_msg.specs.declared.level.Level.TheVariants.{Warning}
use Rattle.alog_msg.specs.declared.message.Message.{Message}
use Rattle.alog_pool.specs.Gaps.{gap_text}
use Rattle.alog_pool.specs.OneWorker.{HoldsMore}
use Rattle.alog_registry.specs.Given.{message_with}
use Rattle.alog_registry.specs.Logging.{IsBelow}
use Rattle.alog_sink.specs.Files.{Files}
use Rattle.alog_sink.specs.Turn.{LeafView}
use Rattle.alog_sink.specs.declared.sink.Sink.{Sink}
use Rattle.alog_sink.specs.declared.sink.Sink.TheVariants.{Leaf}
use Rattle.test_laws.specs.PipedLines.{IsOf, StandsOn}

-- What became of pieces that follow each other.
pub data Stretch : Type 0 where
  -- one was posted
  Kept : Piece → Stretch
  -- one is below this level, which the logger had
  Below : Level → Piece → Stretch
  -- these are missing, and a line was posted that says how many
  Told : List Piece → Stretch
  -- these are missing, and that line is below this level, which the logger had
  Hidden : Level → List Piece → Stretch

abbrev pub pieces_of_stretch : Stretch → List Piece
pieces_of_stretch (Kept p) = p ∷ []
pieces_of_stretch (Below own p) = p ∷ []
pieces_of_stretch (Told ps) = ps
pieces_of_stretch (Hidden own ps) = ps

-- how many are missing in these, and how many are below the level
abbrev pub missing_in : List Stretch → ℕ
missing_in [] = 0
missing_in (Kept p ∷ ss) = missing_in ss
missing_in (Below own p ∷ ss) = missing_in ss
missing_in (Told ps ∷ ss) = length ps + missing_in ss
missing_in (Hidden own ps ∷ ss) = length ps + missing_in ss

abbrev pub below_in : List Stretch → ℕ
below_in [] = 0
below_in (Kept p ∷ ss) = below_in ss
below_in (Below own p ∷ ss) = 1 + below_in ss
below_in (Told ps ∷ ss) = below_in ss
below_in (Hidden own ps ∷ ss) = below_in ss

-- a message of this logger at level warning, of the pool's first thread, that says that so many are missing; its time is some
abbrev pub SaysMissing : ℕ → ℕ → Message → Type 0
SaysMissing logger n m = (time : ℤ) × (m ≡ message_with logger Warning time 0 (gap_text n) None)

-- These messages tell these stretches, in their order: of a piece that was posted there is one with its text, of those that are missing, of
-- which there are some, one that says how many. Of what is below the level there is none.
abbrev pub Tells : ℕ → Level → List Stretch → List Message → Type 0
Tells logger level [] [] = Unit {0}
Tells logger level (Kept p ∷ ss) (m ∷ ms) = IsOf logger level p m × Tells logger level ss ms
Tells logger level (Told ps ∷ ss) (m ∷ ms) = (0 < length ps) × SaysMissing logger (length ps) m × Tells logger level ss ms
Tells logger level (Below own p ∷ ss) ms = IsBelow level own × Tells logger level ss ms
Tells logger level (Hidden own ps ∷ ss) ms = (0 < length ps) × IsBelow Warning own × Tells logger level ss ms
Tells logger level _ _ = ⊥

-- Messages tell stretches of the pieces of these bytes. These stretches, and behind them what is missing at the end and so many are, of
-- which no line tells, are all pieces, in their order. So of them there are messages for all but as many as are missing, and as are below
-- the level; and of those that are missing, but for the last, messages tell, unless these are below the level, too.
pub record AreTold (logger : ℕ) (level : Level) (limit : ℕ) (bytes : List ℕ) (missing below untold : ℕ) (messages : List Message) : Type 0 where
  pub stretches : List Stretch
  pub rest : List Piece
  pub pieces_are : pieces_of limit bytes ≡ flat_map pieces_of_stretch stretches ++ rest
  pub missing_are : missing ≡ missing_in stretches + length rest
  pub below_are : below ≡ below_in stretches
  pub untold_are : untold ≡ length rest
  pub told : Tells logger level stretches messages

-- The second list are these messages, in their order, but for so many that are missing. In place of missing ones that follow each other it
-- has a message that says how many; of those at the end it may have none.
abbrev pub TellsLost : ℕ → List Message → List Message → ℕ → Type 0
TellsLost logger posted [] n = length posted ≡ n
TellsLost logger posted (m ∷ ms) n =
    ((rest : List Message) × (posted ≡ m ∷ rest) × TellsLost logger rest ms n)
    ⊎ ((lost : List Message) × (rest : List Message) × (others : ℕ) × (posted ≡ lost ++ rest) × (0 < length lost)
    × SaysMissing logger (length lost) m × TellsLost logger rest ms others × (length lost + others ≡ n))

module _ {S : Type 0} (files : S → Files) where
  -- Of these sinks that of this number holds, behind what it held at first, these messages. If it is no fan it stands for them over one of
  -- these stores.
  pub record Holds (n : ℕ) (stores : List S) (first last : List (Sink S)) (messages : List Message) : Type 0 where
    pub old : Sink S
    pub new : Sink S
    pub old_is : slice_get first n ≡ Some old
    pub new_is : slice_get last n ≡ Some new
    pub holds : HoldsMore files old new messages
    pub stands : (leaf : LeafView S) → new ≡ Leaf leaf → StandsOn files stores messages leaf

  -- It holds messages that tell of all pieces of these bytes.
  pub record HoldsStretches (logger : ℕ) (level : Level) (n : ℕ) (stores : List S) (first last : List (Sink S)) (limit : ℕ) (bytes : List ℕ)
      (missing below untold : ℕ) : Type 0 where
    pub messages : List Message
    pub are : AreTold logger level limit bytes missing below untold messages
    pub held : Holds n stores first last messages

  -- It holds such messages but for as many as were overrun, in their order, and says in their place how many they are.
  pub record HoldsKept (logger : ℕ) (level : Level) (n : ℕ) (stores : List S) (first last : List (Sink S)) (limit : ℕ) (bytes : List ℕ)
      (missing below untold overrun : ℕ) : Type 0 where
    pub posted : List Message
    pub are : AreTold logger level limit bytes missing below untold posted
    pub messages : List Message
    pub kept : TellsLost logger posted messages overrun
    pub held : Holds n stores first last messages
