-- The first line of bytes, and those behind it.
use Rattle.std.proofs.Common.{◌≡◌, ◌≢◌, ◌<◌, ℕ, zero, suc, List, [], ◌∷◌, ◌++◌, length, drop, Bool, true, false, cond, eqb, refl, ◌∙◌}
use Rattle.std.proofs.Common.{ap, arith}
use Rattle.std.proofs.lemmas.Bool.{eqb-true}
use Rattle.alog_lines.specs.Lines.{lines_of, begin_line, IsUnbroken}

-- a byte that is no newline begins the first line
begins_test : (b : ℕ) (t : Bool) → eqb b 10 ≡ t → b ≢ 10 → (x y : List (List ℕ)) → cond t x y ≡ y
begins_test b true e h x y = absurd (h (eqb-true b 10 e))
begins_test b false e h x y = refl

pub lines_of-cons : (b : ℕ) (bytes : List ℕ) → b ≢ 10 → lines_of (b ∷ bytes) ≡ begin_line b (lines_of bytes)
unfolding lines_of
lines_of-cons b bytes h = begins_test b (eqb b 10) refl h _ _

pub lines_of-newline : (bytes : List ℕ) → lines_of (10 ∷ bytes) ≡ [] ∷ lines_of bytes
unfolding lines_of
lines_of-newline bytes = refl

pub lines_of-nil : lines_of [] ≡ []
unfolding lines_of
lines_of-nil = refl

-- a line and its newline
pub line_then : (line x : List ℕ) → IsUnbroken line → lines_of (line ++ 10 ∷ x) ≡ line ∷ lines_of x
line_then [] x h = lines_of-newline x
line_then (b ∷ line) x h = lines_of-cons b (line ++ 10 ∷ x) h.0 ∙ ap (begin_line b) (line_then line x h.1)

-- a line without one
pub last_line : (line : List ℕ) → IsUnbroken line → 0 < length line → lines_of line ≡ line ∷ []
last_line [] h more = absurd (omega arith)
last_line (b ∷ []) h more = lines_of-cons b [] h.0 ∙ ap (begin_line b) lines_of-nil
last_line (b ∷ c ∷ line) h more = lines_of-cons b (c ∷ line) h.0 ∙ ap (begin_line b) (last_line (c ∷ line) h.1 (omega arith))

-- the first of some lines, which may go on a line that was begun, and the others
abbrev pub first_in : List (List ℕ) → List ℕ
first_in [] = []
first_in (line ∷ lines) = line

abbrev pub others_in : List (List ℕ) → List (List ℕ)
others_in [] = []
others_in (line ∷ lines) = lines

begun : (b : ℕ) (lines : List (List ℕ)) → begin_line b lines ≡ (b ∷ first_in lines) ∷ others_in lines
begun b [] = refl
begun b (line ∷ lines) = refl

-- bytes with no newline begin the first line, which those behind them go on
pub line_begun : (w x : List ℕ) → IsUnbroken w → 0 < length w → lines_of (w ++ x) ≡ (w ++ first_in (lines_of x)) ∷ others_in (lines_of x)
line_begun [] x h some = absurd (omega arith)
line_begun (b ∷ []) x h some = lines_of-cons b x h.0 ∙ begun b (lines_of x)
line_begun (b ∷ c ∷ w) x h some =
    lines_of-cons b ((c ∷ w) ++ x) h.0 ∙ ap (begin_line b) (line_begun (c ∷ w) x h.1 (omega arith))

-- fewer bytes of them have none either
pub unbroken-drop : (n : ℕ) (w : List ℕ) → IsUnbroken w → IsUnbroken (drop n w)
unbroken-drop zero w h = h
unbroken-drop (suc n) [] h = tt
unbroken-drop (suc n) (b ∷ w) h = unbroken-drop n w h.1
