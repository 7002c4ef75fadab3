-- What is true of the pieces of each line.
use Rattle.std.proofs.Common.{◌≡◌, ◌<◌, ◌≤◌, ℕ, zero, suc, false, cond, List, [], ◌∷◌, ◌++◌, length, length-drop, map, drop, Some, None, IsUtf8, encode_utf8, encode_utf8_all, refl}
use Rattle.std.proofs.Common.{sym, ap, subst, ◌∙◌, arith, append_assoc, count_by, ⊎_elim}
use Rattle.std.specs.Prelude.{Option}
use Rattle.std.specs.Char.{IsScalar}
use Rattle.std.specs.List.{AllByRecursion, flat_map}
use Rattle.std.proofs.lemmas.Bool.{cases_lt}
use Rattle.std.proofs.lemmas.List.Sums.{sum_by-append, sum_by-cons}
use Rattle.std.proofs.lemmas.Str.{IsUtf8-append, IsUtf8-encode, IsUtf8-nil}
use Rattle.bstr.specs.Utf8.{Decoded, decoded, or_replacement, pieces, replacement}
use Rattle.bstr.proofs.lemmas.LossyLemmas.{lossy_chars-utf8_lossy}
use Rattle.bstr.proofs.lemmas.PieceLemmas.{piece-bounds}
use Rattle.bstr.proofs.lemmas.SoundLemmas.{SpellsChar-decoded}
use Rattle.alog_lines.specs.Laws.{LinesEndOnce, PiecesAreTheLine, PiecesFit, ShortLinesAreWhole}
use Rattle.alog_lines.specs.Lines.{lines_of}
use Rattle.alog_lines.specs.Pieces.{Piece, chars_in, nothing, pieces_behind, pieces_in, with_char}
use Rattle.alog_lines.specs.declared.cutter.TheConstants.{TEXT_MIN}
use Rattle.alog_lines.proofs.CharLemmas.{chars_in-nil, chars_in-step, length-with_char, width-most}
use Rattle.alog_lines.proofs.PieceLemmas.{behind-fits, behind-next, behind-nil, short_line}

-- the text of a character, or of what is none
abbrev bytes_of : Option ℕ → List ℕ
bytes_of (Some c) = encode_utf8 c
bytes_of None = encode_utf8 replacement

text-with : (p : Piece) (c : Option ℕ) → (with_char p c).text ≡ p.text ++ bytes_of c
text-with p (Some c) = refl
text-with p None = refl

abbrev texts_of : List Piece → List ℕ
texts_of ps = flat_map (λ (p : Piece). p.text) ps

-- the texts of the pieces are those of the characters
texts_behind : (limit : ℕ) (p : Piece) (cs : List (Option ℕ)) → texts_of (pieces_behind limit p cs) ≡ p.text ++ flat_map bytes_of cs
texts_behind limit p [] = ap texts_of (behind-nil limit p)
texts_behind limit p (c ∷ cs) =
    ⊎_elim
    (λ (over : limit < length (with_char p c).text).
    ap texts_of (behind-next limit p c cs over)
    ∙ ap (λ t. p.text ++ t) (texts_behind limit (with_char nothing c) cs ∙ ap (λ t. t ++ flat_map bytes_of cs) (text-with nothing c)))
    (λ (fits : length (with_char p c).text ≤ limit).
    ap texts_of (behind-fits limit p c cs fits) ∙ texts_behind limit (with_char p c) cs
    ∙ ap (λ t. t ++ flat_map bytes_of cs) (text-with p c) ∙ append_assoc p.text (bytes_of c) (flat_map bytes_of cs))
    (cases_lt limit (length (with_char p c).text))

-- and these are those of `lossy_chars`
one_text : (c : Option ℕ) → bytes_of c ≡ encode_utf8 (or_replacement c)
one_text (Some c) = refl
one_text None = refl

lossy_texts : (ds : List Decoded) → flat_map bytes_of (map (λ (d : Decoded). d.char) ds)
    ≡ encode_utf8_all (map (λ (d : Decoded). or_replacement d.char) ds)
lossy_texts [] = refl
lossy_texts (d ∷ ds) =
    ap (λ t. t ++ flat_map bytes_of (map (λ (d : Decoded). d.char) ds)) (one_text d.char)
    ∙ ap (λ t. encode_utf8 (or_replacement d.char) ++ t) (lossy_texts ds)

pub pieces_are_the_line : PiecesAreTheLine
pieces_are_the_line limit line = texts_behind limit nothing (chars_in line) ∙ lossy_texts (pieces line) ∙ lossy_chars-utf8_lossy line

-- a character that is one
abbrev IsChar : Option ℕ → Type 0
IsChar (Some c) = IsScalar c
IsChar None = Unit {0}

decoded_char : (bytes : List ℕ) (c : Option ℕ) → (decoded bytes).char ≡ c → IsChar c
decoded_char bytes (Some y) is = (SpellsChar-decoded bytes y is).scalar
decoded_char bytes None is = tt

all_chars : (n : ℕ) (bytes : List ℕ) → length bytes ≤ n → AllByRecursion IsChar (chars_in bytes)
all_chars n [] few = subst (AllByRecursion IsChar) (sym chars_in-nil) tt
all_chars zero (b ∷ bytes) few = absurd (omega arith)
all_chars (suc n) (b ∷ bytes) few =
    let all = b ∷ bytes in
    let size = (decoded all).size in
    let bounds = piece-bounds all (omega arith) in
    let left = length-drop size all in
    subst (AllByRecursion IsChar) (sym (chars_in-step all (omega arith)))
    (decoded_char all (decoded all).char refl, all_chars n (drop size all) (omega arith))

utf8-with : (p : Piece) (c : Option ℕ) → IsUtf8 p.text → IsChar c → IsUtf8 (with_char p c).text
utf8-with p (Some c) u h = IsUtf8-append p.text (encode_utf8 c) u (IsUtf8-encode c h)
utf8-with p None u h = IsUtf8-append p.text (encode_utf8 replacement) u (IsUtf8-encode replacement (grind arith))

module _ (limit : ℕ) (least : TEXT_MIN ≤ limit) where
  abbrev Fits : Piece → Type 0
  Fits p = IsUtf8 p.text × (length p.text ≤ limit)

  fits_behind : (p : Piece) (cs : List (Option ℕ)) → Fits p → AllByRecursion IsChar cs → AllByRecursion Fits (pieces_behind limit p cs)
  fits_behind p [] fit all = subst (AllByRecursion Fits) (sym (behind-nil limit p)) (fit, tt)
  fits_behind p (c ∷ cs) fit all =
      ⊎_elim
      (λ (over : limit < length (with_char p c).text).
      let alone = length-with_char nothing c in
      let most = width-most c in
      subst (AllByRecursion Fits) (sym (behind-next limit p c cs over)) (
        fit,
        fits_behind (with_char nothing c) cs (utf8-with nothing c IsUtf8-nil all.0, omega (arith, least)) all.1,
      ))
      (λ (fits : length (with_char p c).text ≤ limit).
      subst (AllByRecursion Fits) (sym (behind-fits limit p c cs fits)) (fits_behind (with_char p c) cs (utf8-with p c fit.0 all.0, fits) all.1))
      (cases_lt limit (length (with_char p c).text))

pub pieces_fit : PiecesFit
pieces_fit limit line least =
    fits_behind limit least nothing (chars_in line) (IsUtf8-nil, omega arith) (all_chars (length line) line (omega arith))

pub short_lines_are_whole : ShortLinesAreWhole
short_lines_are_whole limit line u fits = short_line limit line u fits

-- one piece of a line ends it
abbrev one_of : Piece → ℕ
one_of p = cond p.ends 1 0

abbrev ended_in : List Piece → ℕ
ended_in ps = count_by (λ (p : Piece). p.ends) ps

ends-with : (p : Piece) (c : Option ℕ) → (with_char p c).ends ≡ p.ends
ends-with p (Some c) = refl
ends-with p None = refl

one_end : (limit : ℕ) (p : Piece) (cs : List (Option ℕ)) → p.ends ≡ false → ended_in (pieces_behind limit p cs) ≡ 1
one_end limit p [] unended = ap ended_in (behind-nil limit p)
one_end limit p (c ∷ cs) unended =
    ⊎_elim
    (λ (over : limit < length (with_char p c).text).
    let others = pieces_behind limit (with_char nothing c) cs in
    let step = sum_by-cons one_of p others in
    let none : one_of p ≡ 0 = ap (λ b. cond b 1 0) unended in
    let later : ended_in others ≡ 1 = one_end limit (with_char nothing c) cs (ends-with nothing c) in
    let all : ended_in (p ∷ others) ≡ 1 = omega (arith, step, none, later) in
    ap ended_in (behind-next limit p c cs over) ∙ all)
    (λ (fits : length (with_char p c).text ≤ limit).
    ap ended_in (behind-fits limit p c cs fits) ∙ one_end limit (with_char p c) cs (ends-with p c ∙ unended))
    (cases_lt limit (length (with_char p c).text))

ends_of : (limit : ℕ) (lines : List (List ℕ)) → ended_in (flat_map (pieces_in limit) lines) ≡ length lines
ends_of limit [] = refl
ends_of limit (line ∷ lines) =
    let here = one_end limit nothing (chars_in line) refl in
    let later = ends_of limit lines in
    let both = sum_by-append one_of (pieces_in limit line) (flat_map (pieces_in limit) lines) in omega (arith, both, here, later)

pub lines_end_once : LinesEndOnce
lines_end_once limit bytes = ends_of limit (lines_of bytes)
