-- What a line does to each kind of target.
use Rattle.std.proofs.Common.{◌≡◌, ℕ, List, [], ◌∷◌, ◌++◌, Result, Ok, Err, OnOk, ap, ◌∙◌, sym, subst}
use Rattle.alog_sink.specs.Files.{Files}
use Rattle.alog_sink.specs.Lines.{Written, lines_of}
use Rattle.alog_sink.specs.RotationDeeds.{Rotating, StandsFor}
use Rattle.alog_sink.proofs.SharedOneFiles.{lines_more}

-- a rotation stands for the lines as it does for what was written
pub rotated_more : {A E : Type 0} (r : Result A E) {old : Rotating} (new : Rotating) {line : List ℕ} {before : Files} (after : Files)
    → OnOk r ((opening : Files) (lines : List (List ℕ)) → StandsFor old opening lines before
    → StandsFor new opening (lines ++ line ∷ []) after)
    → {opening : Files} (ws : List Written) (w : Written) → w.line ≡ line → StandsFor old opening (lines_of ws) before
    → OnOk r (StandsFor new opening (lines_of (ws ++ w ∷ [])) after)
rotated_more (Ok x) new after more {opening} ws w is s =
    subst (λ lines. StandsFor new opening lines after) (sym (lines_more ws w ∙ ap (λ l. lines_of ws ++ l ∷ []) is))
    (more opening (lines_of ws) s)
rotated_more (Err x) new after more ws w is s = tt
