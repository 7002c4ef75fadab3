-- The pieces of a line, one character after another.
use Rattle.std.proofs.Common.{◌≡◌, ◌+◌, ◌<◌, ◌≤◌, ℕ, true, false, List, [], ◌∷◌, ◌++◌, length, length-append, map, Some, IsUtf8, encode_utf8, encode_utf8_all, refl}
use Rattle.std.proofs.Common.{sym, ap, subst, ◌∙◌, arith, append_assoc}
use Rattle.std.specs.Prelude.{Option, nat_le}
use Rattle.std.specs.List.{flat_map}
use Rattle.std.proofs.lemmas.Bool.{cond-true, cond-false}
use Rattle.std.proofs.lemmas.Bool.Decides.{nat_tests}
use Rattle.std.proofs.lemmas.List.{append-nil}
use Rattle.alog_lines.specs.Lines.{lines_of, IsUnbroken}
use Rattle.alog_lines.specs.Pieces.{Piece, nothing, with_char, ending, pieces_behind, pieces_in, pieces_of}
use Rattle.alog_lines.proofs.CharLemmas.{chars_in-encode}
use Rattle.alog_lines.proofs.SharedLines.{line_then, line_begun, last_line, first_in, others_in}

pub behind-nil : (limit : ℕ) (p : Piece) → pieces_behind limit p [] ≡ ending p ∷ []
unfolding pieces_behind
behind-nil limit p = refl

-- a character that fits
pub behind-fits : (limit : ℕ) (p : Piece) (c : Option ℕ) (cs : List (Option ℕ)) → length (with_char p c).text ≤ limit
    → pieces_behind limit p (c ∷ cs) ≡ pieces_behind limit (with_char p c) cs
unfolding pieces_behind
behind-fits limit p c cs fits =
    let test : nat_le (length (with_char p c).text) limit ≡ true = grind (arith, nat_tests) in cond-true _ _ _ test

-- one that does not
pub behind-next : (limit : ℕ) (p : Piece) (c : Option ℕ) (cs : List (Option ℕ)) → limit < length (with_char p c).text
    → pieces_behind limit p (c ∷ cs) ≡ p ∷ pieces_behind limit (with_char nothing c) cs
unfolding pieces_behind
behind-next limit p c cs over =
    let test : nat_le (length (with_char p c).text) limit ≡ false = grind (arith, nat_tests) in cond-false _ _ _ test

-- the piece that a text makes of another
abbrev with_text : Piece → List ℕ → Piece
with_text p bytes = record { text = p.text ++ bytes; mended = p.mended; ends = p.ends }

-- characters that all fit
behind-all : (limit : ℕ) (p : Piece) (cs : List ℕ) → length p.text + length (encode_utf8_all cs) ≤ limit
    → pieces_behind limit p (map (λ (c : ℕ). Some c) cs) ≡ ending (with_text p (encode_utf8_all cs)) ∷ []
behind-all limit p [] fits =
    behind-nil limit p ∙ ap (λ (t : List ℕ). record { text = t; mended = p.mended; ends = true } ∷ []) (sym (append-nil p.text))
behind-all limit p (c ∷ cs) fits =
    let one = length-append p.text (encode_utf8 c) in
    let both = length-append (encode_utf8 c) (encode_utf8_all cs) in
    behind-fits limit p (Some c) (map (λ (c : ℕ). Some c) cs) (omega arith)
    ∙ behind-all limit (with_char p (Some c)) cs (omega arith)
    ∙ ap (λ (t : List ℕ). record { text = t; mended = p.mended; ends = true } ∷ []) (append_assoc p.text (encode_utf8 c) (encode_utf8_all cs))

-- a short line in UTF-8 is one piece
pub short_line : (limit : ℕ) (line : List ℕ) → IsUtf8 line → length line ≤ limit
    → pieces_in limit line ≡ record { text = line; mended = 0; ends = true } ∷ []
short_line limit line u fits =
    subst (λ (l : List ℕ). length l ≤ limit → pieces_in limit l ≡ record { text = l; mended = 0; ends = true } ∷ []) u.1.1
    (λ within. ap (pieces_behind limit nothing) (chars_in-encode u.0 u.1.0) ∙ behind-all limit nothing u.0 (omega (arith, within))) fits

-- the pieces of bytes that begin with a line and its newline
pub of_line : (limit : ℕ) (line x : List ℕ) → IsUnbroken line → pieces_of limit (line ++ 10 ∷ x) ≡ pieces_in limit line ++ pieces_of limit x
of_line limit line x h = ap (flat_map (pieces_in limit)) (line_then line x h)

-- and those of a last line that has none
pub of_last : (limit : ℕ) (line : List ℕ) → IsUnbroken line → 0 < length line → pieces_of limit line ≡ pieces_in limit line
of_last limit line h some = ap (flat_map (pieces_in limit)) (last_line line h some) ∙ append-nil (pieces_in limit line)

-- the pieces of bytes that begin a line, which those behind them go on
pub of_begun : (limit : ℕ) (w x : List ℕ) → IsUnbroken w → 0 < length w
    → pieces_of limit (w ++ x) ≡ pieces_in limit (w ++ first_in (lines_of x)) ++ flat_map (pieces_in limit) (others_in (lines_of x))
of_begun limit w x h some = ap (flat_map (pieces_in limit)) (line_begun w x h some)
