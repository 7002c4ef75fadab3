-- The bytes of a file that keeps all lines.
use Rattle.std.proofs.Common.{◌≡◌, ℕ, true, cond, Some, List, [], ◌∷◌, ◌++◌, refl, sym, ap, ◌∙◌, append_assoc}
use Rattle.std.proofs.lemmas.List.{append-nil}
use Rattle.std.specs.Option.{unwrap_or}
use Rattle.std.specs.Str.{bytes_eq}
use Rattle.std.specs.Cmp.Lexicographic.{bytes_decides}
use Rattle.alog_sink.specs.Files.{Files, bytes_of}
use Rattle.alog_sink.specs.OneFile.{one_file, joined}
use Rattle.alog_sink.specs.Lines.{Written, lines_of}

pub lines_more : (ws : List Written) (w : Written) → lines_of (ws ++ w ∷ []) ≡ lines_of ws ++ w.line ∷ []
lines_more [] w = refl
lines_more (v ∷ ws) w = ap (λ ls. v.line ∷ ls) (lines_more ws w)

pub joined_more : (lines : List (List ℕ)) (line : List ℕ) → joined (lines ++ line ∷ []) ≡ joined lines ++ line
joined_more [] line = append-nil line
joined_more (l ∷ lines) line = ap (λ bs. l ++ bs) (joined_more lines line) ∙ sym (append_assoc l (joined lines) line)

module _ (file : List ℕ) (opening : Files) where
  itself : bytes_eq file file ≡ true
  itself = (bytes_decides file file).1 refl

  pub one_file_has : (lines : List (List ℕ)) → bytes_of (one_file file opening lines) file ≡ bytes_of opening file ++ joined lines
  one_file_has [] = sym (append-nil (bytes_of opening file))
  one_file_has (l ∷ lines) = ap (λ b. unwrap_or (cond b (Some (bytes_of opening file ++ joined (l ∷ lines))) (opening file)) []) itself
