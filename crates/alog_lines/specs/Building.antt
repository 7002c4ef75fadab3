-- The first piece of a line, built of its first bytes.
use Rattle.std.specs.Prelude.{◌≡◌, ◌≤◌, ◌<◌, ◌+◌, ℕ, List, [], ◌∷◌, ◌++◌, false, length, drop}
use Rattle.bstr.specs.Utf8.{decoded}
use Rattle.alog_lines.specs.Pieces.{Piece, ending, pieces_in, with_char}
use Rattle.alog_lines.specs.declared.build.Built.{Built}

-- the piece that was built, before it is known whether its line ends with it
abbrev pub piece_built : List ℕ → Built → Piece
piece_built text built = record { text = text; mended = built.mended; ends = false }

-- the first character of these bytes does not fit behind the piece
abbrev pub IsFull : ℕ → List ℕ → Piece → Type 0
IsFull limit rest p = limit < length (with_char p (decoded rest).char).text

-- it was put there, and its bytes are taken
abbrev pub Adds : ℕ → List ℕ → Piece → ℕ → Piece → ℕ → Type 0
Adds limit rest old taken new after =
    (new ≡ with_char old (decoded rest).char) × (length new.text ≤ limit) × (after ≡ taken + (decoded rest).size)

-- Of a line that begins with these bytes the piece takes so many. Where these are all bytes of the line, it is the first piece, and the
-- others are those of the rest. Where they are more than a text has, it is so whatever bytes of the line follow.
pub record Builds (limit : ℕ) (bytes : List ℕ) (taken : ℕ) (piece : Piece) : Type 0 where
  pub within : taken ≤ length bytes
  pub some : 0 < length bytes → 0 < taken
  pub fits : length piece.text ≤ limit
  pub all : taken ≡ length bytes → pieces_in limit bytes ≡ ending piece ∷ []
  pub part : taken < length bytes → pieces_in limit bytes ≡ piece ∷ pieces_in limit (drop taken bytes)
  pub long : limit < length bytes → (taken < length bytes)
      × ((more : List ℕ) → pieces_in limit (bytes ++ more) ≡ piece ∷ pieces_in limit (drop taken bytes ++ more))
