-- What is true of the pieces of each line, in the words of the line alone.
use Rattle.std.specs.Prelude.{◌≡◌, ◌≤◌, ℕ, true, List, [], ◌∷◌, length, count_by}
use Rattle.std.specs.List.{AllByRecursion, flat_map}
use Rattle.std.specs.Str.{IsUtf8}
use Rattle.std.specs.Str.Lossy.{utf8_lossy}
use Rattle.alog_lines.specs.Lines.{lines_of}
use Rattle.alog_lines.specs.Pieces.{Piece, pieces_in, pieces_of}
use Rattle.alog_lines.specs.declared.cutter.TheConstants.{TEXT_MIN}

-- the texts of a line's pieces, one behind the other, are the line with U+FFFD for what is no character
abbrev pub PiecesAreTheLine : Type 0
PiecesAreTheLine = (limit : ℕ) (line : List ℕ) → flat_map (λ (p : Piece). p.text) (pieces_in limit line) ≡ utf8_lossy line

-- each is a text of at most so many bytes
abbrev pub PiecesFit : Type 0
PiecesFit = (limit : ℕ) (line : List ℕ) → TEXT_MIN ≤ limit
    → AllByRecursion (λ (p : Piece). IsUtf8 p.text × (length p.text ≤ limit)) (pieces_in limit line)

-- a short line in UTF-8 is one piece, of which nothing was mended
abbrev pub ShortLinesAreWhole : Type 0
ShortLinesAreWhole = (limit : ℕ) (line : List ℕ) → IsUtf8 line → length line ≤ limit
    → pieces_in limit line ≡ record { text = line; mended = 0; ends = true } ∷ []

-- as many pieces end a line as there are lines
abbrev pub LinesEndOnce : Type 0
LinesEndOnce = (limit : ℕ) (bytes : List ℕ) → count_by (λ (p : Piece). p.ends) (pieces_of limit bytes) ≡ length (lines_of bytes)
