-- The pieces of lines: texts of at most so many bytes.
use Rattle.std.specs.Prelude.{ℕ, ◌+◌, Bool, true, false, List, [], ◌∷◌, ◌++◌, Option, Some, None, length, map, nat_le, if◌then◌else◌}
use Rattle.std.specs.Char.{encode_utf8}
use Rattle.std.specs.List.{flat_map}
use Rattle.bstr.specs.Utf8.{Decoded, pieces, replacement}
use Rattle.alog_lines.specs.Lines.{lines_of}

-- The characters of a line in UTF-8, by Table 3-7 of the Unicode Standard. `None` is a longest front of a character that is none, or a
-- byte that begins none: `String::from_utf8_lossy` has U+FFFD for it.
abbrev pub chars_in : List ℕ → List (Option ℕ)
chars_in line = map (λ (d : Decoded). d.char) (pieces line)

-- a text in UTF-8, how many of its U+FFFD stand for what is no character, and whether its line ends with it
pub record Piece : Type 0 where
  pub text : List ℕ
  pub mended : ℕ
  pub ends : Bool

-- one in which nothing is yet
abbrev pub nothing : Piece
nothing = record { text = []; mended = 0; ends = false }

-- with one character more
abbrev pub with_char : Piece → Option ℕ → Piece
with_char p (Some c) = record { text = p.text ++ encode_utf8 c; mended = p.mended; ends = p.ends }
with_char p None = record { text = p.text ++ encode_utf8 replacement; mended = p.mended + 1; ends = p.ends }

-- the last piece of a line
abbrev pub ending : Piece → Piece
ending p = record { text = p.text; mended = p.mended; ends = true }

-- The pieces of a line, of which this one is begun, by the characters that come behind: the first that does not fit in so many bytes
-- begins the next piece.
unfoldable pub pieces_behind : ℕ → Piece → List (Option ℕ) → List Piece
pieces_behind limit p [] = ending p ∷ []
pieces_behind limit p (c ∷ cs) =
    if nat_le (length (with_char p c).text) limit then pieces_behind limit (with_char p c) cs
    else p ∷ pieces_behind limit (with_char nothing c) cs

-- the pieces of a line: an empty one has one that is empty
abbrev pub pieces_in : ℕ → List ℕ → List Piece
pieces_in limit line = pieces_behind limit nothing (chars_in line)

-- the pieces of each line of these bytes
abbrev pub pieces_of : ℕ → List ℕ → List Piece
pieces_of limit bytes = flat_map (pieces_in limit) (lines_of bytes)
