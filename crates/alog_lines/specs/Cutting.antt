-- What a cutter of lines holds, and what each call of it does.
use Rattle.std.specs.Io.KnownBytes.{IsAtEnd}
use Rattle.std.specs.Prelude.{◌≡◌, ◌≤◌, ◌<◌, ℕ, Bool, true, false, List, [], ◌∷◌, ◌++◌, Option, length}
use Rattle.alog_lines.specs.Lines.{IsUnbroken}
use Rattle.alog_lines.specs.Pieces.{Piece, pieces_of}
use Rattle.alog_lines.specs.Window.{Came}
use Rattle.alog_lines.specs.declared.cutter.Cut.{Cut}
use Rattle.alog_lines.specs.declared.cutter.Fill.{Fill}
use Rattle.alog_lines.specs.declared.cutter.Fill.TheVariants as fill

-- The most bytes of a text, the bytes that were read and are in no piece yet, the text that was found last, and whether the reader was
-- found at its end.
pub record Cutting : Type 0 where
  pub limit : ℕ
  pub pending : List ℕ
  pub text : List ℕ
  pub ended : Bool

-- these bytes may still come: none where the reader is at its end
abbrev pub MayCome : Cutting → List ℕ → Type 0
MayCome s more = s.ended ≡ true → more ≡ []

-- the piece that a cut found
abbrev pub piece_of : Cutting → Cut → Piece
piece_of s cut = record { text = s.text; mended = cut.mended; ends = cut.ends }

-- The piece was taken from the front of what is pending: whatever may still come, it is the first of the pieces, and what is pending
-- now has the others.
pub record Takes (old new : Cutting) (piece : Piece) : Type 0 where
  pub taken : List ℕ
  pub whole : old.pending ≡ taken ++ new.pending
  pub some : 0 < length taken
  pub fits : length piece.text ≤ old.limit
  pub first : (more : List ℕ) → MayCome old more
      → pieces_of old.limit (old.pending ++ more) ≡ piece ∷ pieces_of old.limit (new.pending ++ more)

-- No piece can be told yet: no newline is pending, and no more than a text holds; at the end of the reader nothing is.
pub record LacksPiece (s : Cutting) : Type 0 where
  pub unbroken : IsUnbroken s.pending
  pub few : length s.pending ≤ s.limit
  pub none : s.ended ≡ true → s.pending ≡ []

-- What a reader gave came behind what was pending, and its end is where it has nothing left.
pub record Reads (before after : Option (List ℕ)) (old new : Cutting) : Type 0 where
  pub came : Came before after old.pending new.pending
  pub end : old.ended ≡ false → new.ended ≡ true → IsAtEnd after
  pub limit : new.limit ≡ old.limit

-- what an answer says of the read: bytes came, or none did, and the reader is at its end or is not found there
abbrev pub Brings : Fill → Cutting → Cutting → Type 0
Brings fill.Bytes old new = (length old.pending < length new.pending) × (new.ended ≡ false)
Brings fill.Nothing old new = (new.pending ≡ old.pending) × (new.ended ≡ false)
Brings fill.End old new = (new.pending ≡ old.pending) × (new.ended ≡ true)

-- the same limit, and the reader no nearer to its end
abbrev pub IsSame : Cutting → Cutting → Type 0
IsSame old new = (new.limit ≡ old.limit) × (new.ended ≡ old.ended)

-- Of these bytes the pieces so far were found: the others are those of what is pending, which is the last of the bytes, and of what may
-- still come.
pub record HasCut (limit : ℕ) (bytes : List ℕ) (pieces : List Piece) (s : Cutting) : Type 0 where
  pub taken : List ℕ
  pub whole : bytes ≡ taken ++ s.pending
  pub same : s.limit ≡ limit
  pub others : (more : List ℕ) → MayCome s more → pieces_of limit (bytes ++ more) ≡ pieces ++ pieces_of limit (s.pending ++ more)
