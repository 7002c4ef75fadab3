-- What a pipe does with what its reader gives.
use Rattle.std.specs.Prelude.{◌≡◌, ◌⊎◌, ℕ, zero, suc, ℤ, Bool, true, List, Option}
use Rattle.std.specs.Io.KnownBytes.{Consumes, IsAtEnd}
use Rattle.alog_lines.specs.Cutting.{Cutting, HasCut, IsSame as IsSameCut, LacksPiece, Takes}
use Rattle.alog_lines.specs.Pieces.{Piece, pieces_of}
use Rattle.alog_pipe.specs.Counted.{counted}
use Rattle.alog_pipe.specs.InTurn.{InTurn}
use Rattle.alog_pipe.specs.Logged.{LogsPiece, Tells}
use Rattle.alog_pipe.specs.declared.counts.Counts.{Counts}
use Rattle.alog_pipe.specs.declared.piece_log.PieceLog.{PieceLog}
use Rattle.alog_pipe.specs.declared.piece_log.Told.TheVariants as told
use Rattle.alog_pipe.specs.declared.pump.Pump.{Pump}
use Rattle.alog_pool.specs.Producer.{IsSame}

-- each piece was taken from the front of what was pending
abbrev pub TakesAll : List Piece → Cutting → Cutting → Type 0
TakesAll ps old new = InTurn (λ (p : Piece) s t. Takes s t p × IsSameCut s t) ps old new

-- the line that says what is missing was logged and kept, where some is; or there was no room or no memory for it
abbrev pub TriesToTell : ℤ → PieceLog → PieceLog → Type 0
TriesToTell time old new = Tells time told.All old new ⊎ Tells time told.NoRoom old new ⊎ Tells time told.NoMemory old new

-- so many such tries, one behind the other, and nothing else
abbrev pub Rests : ℕ → PieceLog → PieceLog → Type 0
Rests zero old new = new ≡ old
Rests (suc n) old new = (mid : PieceLog) × Rests n old mid × ((time : ℤ) × TriesToTell time mid new)

-- some such tries, and then the piece was logged, at some time
abbrev pub LogsNext : Piece → PieceLog → PieceLog → Type 0
LogsNext p old new = (mid : PieceLog) × ((rests : ℕ) × Rests rests old mid) × ((time : ℤ) × LogsPiece time p.text mid new)

-- Each was logged, with some such tries before it; and some came behind the last one.
pub record LogsAll (ps : List Piece) (old new : PieceLog) : Type 0 where
  pub mid : PieceLog
  pub pieces : InTurn LogsNext ps old mid
  pub rests : ℕ
  pub rested : Rests rests mid new

-- each was logged at this time
abbrev pub LogsAt : ℤ → List Piece → PieceLog → PieceLog → Type 0
LogsAt time ps old new = InTurn (λ (p : Piece) s t. LogsPiece time p.text s t) ps old new

-- What was pending was logged, all at one time: no piece is left, and each was counted.
pub record PumpsRead (old new : Pump) : Type 0 where
  pub pieces : List Piece
  pub taken : TakesAll pieces old.lines new.lines
  pub left : LacksPiece new.lines
  pub logged : LogsAt new.time pieces old.log new.log
  pub counted_is : new.counts ≡ counted pieces old.counts

-- The reader gave some bytes. What was logged are their pieces, in their order, each once: all of them where the reader is at its end, and
-- else those that were found, with the others still pending. Each was counted.
pub record Pumps (limit : ℕ) (before after : Option (List ℕ)) (all : Bool) (old new : Pump) : Type 0 where
  pub bytes : List ℕ
  pub taken : Consumes before after bytes
  pub pieces : List Piece
  pub logged : LogsAll pieces old.log new.log
  pub found : HasCut limit bytes pieces new.lines
  pub left : LacksPiece new.lines
  pub end : all ≡ true → IsAtEnd after × (pieces ≡ pieces_of limit bytes)
  pub counted_is : new.counts ≡ counted pieces old.counts

-- So often some pieces were missing, and there was no room for the line that says how many.
abbrev pub Naps : ℕ → ℤ → PieceLog → PieceLog → Type 0
Naps zero time old new = new ≡ old
Naps (suc n) time old new = (mid : PieceLog) × Naps n time old mid × Tells time told.NoRoom mid new

-- Then it was logged and kept, or there was no memory for it; or none was missing.
pub record Finishes (time : ℤ) (old new : PieceLog) : Type 0 where
  pub tries : ℕ
  pub mid : PieceLog
  pub naps : Naps tries time old mid
  pub last : Tells time told.All mid new ⊎ Tells time told.NoMemory mid new

-- All of it: what the reader gave was logged, and then the line that says what is missing.
pub record PumpsOut (limit : ℕ) (before after : Option (List ℕ)) (log new : PieceLog) (counts : Counts)
    (all : Bool) : Type 0 where
  pub start : Pump
  pub last : Pump
  pub log_is : start.log ≡ log
  pub counts_are : start.counts ≡ record { lines = 0; bytes = 0; mended = 0; cut = 0 }
  pub pumps : Pumps limit before after all start last
  pub counted_are : counts ≡ last.counts
  pub time : ℤ
  pub finished : Finishes time last.log new
  pub same : IsSame log.producer new.producer
