-- The first line of a script, by the bytes that it takes.
use Rattle.std.proofs.Common.{◌≡◌, ◌≤◌, ◌<◌, ℕ, List, [], ◌∷◌, ◌++◌, length, sym, ◌∙◌}
use Rattle.std.proofs.Common.{ap, arith, append_assoc, length-append}
use Rattle.std.proofs.lemmas.List.{append-nil}
use Rattle.alog_lines.proofs.SharedLines.{first_in, last_line, line_begun, line_then, lines_of-nil, others_in}
use Rattle.alog_replay.specs.declared.limits.TheConstants.{SCRIPT_LINE_MAX}
use Rattle.alog_replay.specs.Lines.{lines_of, IsUnbroken, TakesLine, BeginsTooLong}

-- a line that its newline ends is taken
pub takes_ended : (script line after : List ℕ) → IsUnbroken line → script ≡ line ++ 10 ∷ after → length line ≤ SCRIPT_LINE_MAX
    → TakesLine script line after
takes_ended script line after h e fits = record {
  taken = line ++ 10 ∷ [];
  whole = e ∙ sym (append_assoc line (10 ∷ []) after);
  lines = ap lines_of e ∙ line_then line after h;
  fronts = λ x y p. ap lines_of (append_assoc line (10 ∷ []) x) ∙ line_then line x h;
  fits = fits;
}

last_fronts : (line x y : List ℕ) → IsUnbroken line → 0 < length line → [] ≡ x ++ y → lines_of (line ++ x) ≡ line ∷ lines_of x
last_fronts line [] y h more p = ap lines_of (append-nil line) ∙ (last_line line h more ∙ ap (λ l. line ∷ l) (sym lines_of-nil))
last_fronts line (b ∷ x) y h more p = absurd cc

-- a last line without a newline is taken
pub takes_last : (script line : List ℕ) → IsUnbroken line → 0 < length line → script ≡ line → length line ≤ SCRIPT_LINE_MAX
    → TakesLine script line []
takes_last script line h more e fits = record {
  taken = line;
  whole = e ∙ sym (append-nil line);
  lines = ap lines_of e ∙ (last_line line h more ∙ ap (λ l. line ∷ l) (sym lines_of-nil));
  fronts = λ x y p. last_fronts line x y h more p;
  fits = fits;
}

-- a first line of more bytes than a line may have
pub begins_too_long : (script w x : List ℕ) → IsUnbroken w → SCRIPT_LINE_MAX < length w → script ≡ w ++ x → BeginsTooLong script
begins_too_long script w x h over e =
    let first = first_in (lines_of x) in
    (w ++ first, others_in (lines_of x), ap lines_of e ∙ line_begun w x h (omega arith), omega (arith, length-append w first))

-- bytes with no newline, one after the other
pub unbroken-append : (v w : List ℕ) → IsUnbroken v → IsUnbroken w → IsUnbroken (v ++ w)
unbroken-append [] w h g = g
unbroken-append (b ∷ v) w h g = (h.0, unbroken-append v w h.1 g)
