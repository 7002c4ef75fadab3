-- A one_file with one line more.
use Rattle.std.proofs.Common.{◌≡◌, ℕ, Bool, true, false, cond, Some, List, [], ◌∷◌, ◌++◌, Result, Ok, Err, OnOk, OnErr, refl, sym, ap, ◌∙◌, append_assoc}
use Rattle.std.specs.Option.{unwrap_or}
use Rattle.std.specs.Str.{bytes_eq}
use Rattle.alog_sink.specs.Calls.{LeavesFront}
use Rattle.alog_sink.specs.Deeds.{Append, Does}
use Rattle.alog_sink.specs.Files.{Files, AreSame, appended, bytes_of, with_file}
use Rattle.alog_sink.specs.OneFile.{one_file, joined}
use Rattle.alog_sink.proofs.SharedOneFiles.{joined_more, one_file_has}

module _ (file : List ℕ) (opening : Files) where
  other : (lines : List (List ℕ)) (n : List ℕ) → bytes_eq file n ≡ false → one_file file opening lines n ≡ opening n
  other [] n e = refl
  other (l ∷ lines) n e = ap (λ b. cond b (Some (bytes_of opening file ++ joined (l ∷ lines))) (opening n)) e

  longer : (lines : List (List ℕ)) (line : List ℕ)
      → one_file file opening (lines ++ line ∷ []) ≡ with_file file (bytes_of opening file ++ joined (lines ++ line ∷ [])) opening
  longer [] line = refl
  longer (l ∷ lines) line = refl

  pub one_file_grows : (lines : List (List ℕ)) (line : List ℕ) (old new : Files) → AreSame (one_file file opening lines) old
      → AreSame (appended file line old) new → AreSame (one_file file opening (lines ++ line ∷ [])) new
  one_file_grows lines line old new was is n = is n ∙ at (bytes_eq file n) refl ∙ sym (ap (λ (f : Files). f n) (longer lines line))
    where
      bytes : bytes_of old file ++ line ≡ bytes_of opening file ++ joined (lines ++ line ∷ [])
      bytes = ap (λ o. unwrap_or o [] ++ line) (was file) ∙ ap (λ bs. bs ++ line) (one_file_has file opening lines)
          ∙ append_assoc (bytes_of opening file) (joined lines) line
          ∙ ap (λ bs. bytes_of opening file ++ bs) (sym (joined_more lines line))

      at : (b : Bool) → bytes_eq file n ≡ b
          → cond b (Some (bytes_of old file ++ line)) (old n)
          ≡ cond b (Some (bytes_of opening file ++ joined (lines ++ line ∷ []))) (opening n)
      at true e = ap (λ bs. Some bs) bytes
      at false e = was n ∙ other lines n e

-- one append, by its answer
pub append_does : {E : Type 0} (name bytes : List ℕ) (old new : Files) (answer : Result (Unit {0}) E)
    → OnOk answer (AreSame (appended name bytes old) new) → OnErr answer (LeavesFront name bytes old new)
    → Does (Append name bytes ∷ []) old new answer
append_does name bytes old new (Ok u) done failed = record { done = done; failed = tt }
append_does name bytes old new (Err e) done failed = record {
  done = tt;
  failed = record { before = []; failed = Append name bytes; after = []; are = refl; leaves = failed };
}

-- the same for a call that may have failed
pub one_file_kept : {A E : Type 0} (file line : List ℕ) (opening : Files) {old : Files} (new : Files) (lines : List (List ℕ)) (answer : Result A E)
    → OnOk answer (AreSame (appended file line old) new) → AreSame (one_file file opening lines) old
    → OnOk answer (AreSame (one_file file opening (lines ++ line ∷ [])) new)
one_file_kept file line opening {old} new lines (Ok u) done was = one_file_grows file opening lines line old new was done
one_file_kept file line opening new lines (Err e) done was = tt
