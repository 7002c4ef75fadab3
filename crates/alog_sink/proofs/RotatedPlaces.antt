-- The files of the numbers, where a run comes to the places or the last run goes on.
use Rattle.std.proofs.Common.{◌≡◌, ℕ, zero, suc, ◌<◌, ◌≤◌, cond, ltb, Option, None, Some, List, [], ◌∷◌, ◌++◌}
use Rattle.std.proofs.Common.{get_or, drop, map, refl, sym, ap, ◌∙◌, subst, inl, inr, arith}
use Rattle.std.proofs.lemmas.Bool.{cases_lt}
use Rattle.std.proofs.lemmas.Bool.Decides.{nat_tests}
use Rattle.std.proofs.lemmas.List.{reverse-append, drop_all}
use Rattle.std.proofs.lemmas.List.FromFn.{length-map-range_with_len, get_or-map-range_with_len}
use Rattle.std.specs.List.{concat, range_with_len}
use Rattle.alog_sink.specs.Files.{Files}
use Rattle.alog_sink.specs.Names.{numbered}
use Rattle.alog_sink.specs.Rotation.{Limits, Run, places, first_there, of_number, kept}
use Rattle.alog_sink.proofs.RotatedFiles.{over, over_none}

abbrev Places : Type 0
Places = List (Option (List ℕ))

pick_true : (i max : ℕ) (x y : Option (List ℕ)) → i < max → cond (ltb i max) x y ≡ x
pick_true i max x y less = grind (arith, nat_tests)

pick_false : (max : ℕ) (x y : Option (List ℕ)) → cond (ltb max max) x y ≡ y
pick_false max x y = grind (arith, nat_tests)

pub at_place : (max : ℕ) (files : Places) (i : ℕ) → i < max → of_number max files i ≡ get_or files i None
at_place max files i less = pick_true i max (get_or files i None) (first_there (drop max files)) less

at_most : (max : ℕ) (files : Places) → of_number max files max ≡ first_there (drop max files)
at_most max files = pick_false max (get_or files max None) (first_there (drop max files))

first_dropped : (n : ℕ) (files : Places) → first_there (drop n files) ≡ over (get_or files n None) (first_there (drop (suc n) files))
first_dropped zero [] = refl
first_dropped (suc n) [] = refl
first_dropped zero (None ∷ files) = refl
first_dropped zero (Some bytes ∷ files) = refl
first_dropped (suc n) (file ∷ files) = first_dropped n files

module _ (bytes : List ℕ) (files : Places) where
  pub base_first : (max : ℕ) → of_number max (Some bytes ∷ files) 0 ≡ Some bytes
  base_first zero = at_most 0 (Some bytes ∷ files)
  base_first (suc max) = at_place (suc max) (Some bytes ∷ files) 0 (omega arith)

  pub moved_on : (max i : ℕ) → suc i < max → of_number max (Some bytes ∷ files) (suc i) ≡ of_number max files i
  moved_on max i less = at_place max (Some bytes ∷ files) (suc i) less ∙ sym (at_place max files i (omega arith))

  moved_on_top : (n : ℕ) → of_number (suc n) (Some bytes ∷ files) (suc n)
      ≡ over (of_number (suc n) files n) (of_number (suc n) files (suc n))
  moved_on_top n =
      at_most (suc n) (Some bytes ∷ files) ∙ (first_dropped n files
      ∙ (ap (λ o. over o (first_there (drop (suc n) files))) (sym (at_place (suc n) files n (omega arith)))
      ∙ ap (λ o. over (of_number (suc n) files n) o) (sym (at_most (suc n) files))))

  pub moved_on_last : (max i : ℕ) → suc i ≡ max
      → of_number max (Some bytes ∷ files) (suc i) ≡ over (of_number max files i) (of_number max files (suc i))
  moved_on_last max i e =
      subst (λ m. of_number m (Some bytes ∷ files) (suc i) ≡ over (of_number m files i) (of_number m files (suc i))) e (moved_on_top i)

  pub same_above : (others : List ℕ) (max i : ℕ) → suc i ≤ max
      → of_number max (Some bytes ∷ files) (suc i) ≡ of_number max (Some others ∷ files) (suc i)
  same_above others zero i less = absurd (omega arith)
  same_above others (suc n) i less = refl

module _ (limits : Limits) (opening : Files) where
  pub kept_is : (front : List Run) (last : Run) (i : ℕ)
      → kept limits opening (front ++ last ∷ []) i ≡ of_number limits.max_files (places limits opening (front ++ last ∷ [])) i
  kept_is [] last i = refl
  kept_is (run ∷ front) last i = refl

  pub places_last : (front : List Run) (last : Run)
      → places limits opening (front ++ last ∷ []) ≡ Some (concat last) ∷ places limits opening front
  places_last front last =
      ap (λ runs. map (λ run. Some (concat run)) runs ++ map (λ i. opening (numbered limits.file i)) (range_with_len 1 limits.max_files))
      (reverse-append front (last ∷ []))

  pub kept_last : (front : List Run) (last : Run) (i : ℕ)
      → kept limits opening (front ++ last ∷ []) i ≡ of_number limits.max_files (Some (concat last) ∷ places limits opening front) i
  kept_last front last i = kept_is front last i ∙ ap (λ ps. of_number limits.max_files ps i) (places_last front last)

opened_last : (o : ℕ → Option (List ℕ)) (bytes : List ℕ) (n : ℕ)
    → of_number (suc n) (Some bytes ∷ map o (range_with_len 1 (suc n))) (suc n) ≡ o (suc n)
opened_last o bytes n =
    let opening = map o (range_with_len 1 (suc n)) in
    at_most (suc n) (Some bytes ∷ opening) ∙ (first_dropped n opening
    ∙ (ap (λ file. over file (first_there (drop (suc n) opening)))
    (get_or-map-range_with_len o 1 (suc n) n (suc n) None (omega arith) (omega arith))
    ∙ (ap (λ files. over (o (suc n)) (first_there files)) (drop_all (suc n) opening (omega (arith, length-map-range_with_len o 1 (suc n))))
    ∙ over_none (o (suc n)))))

-- the first run comes before the opening files
pub opened : (o : ℕ → Option (List ℕ)) (bytes : List ℕ) (max i : ℕ) → suc i ≤ max
    → of_number max (Some bytes ∷ map o (range_with_len 1 max)) (suc i) ≡ o (suc i)
opened o bytes zero i less = absurd (omega arith)
opened o bytes (suc n) i less = elim (cases_lt i n) [
  | inl l ↦ at_place (suc n) (Some bytes ∷ map o (range_with_len 1 (suc n))) (suc i) (omega arith)
      ∙ get_or-map-range_with_len o 1 (suc n) i (suc i) None less (omega arith)
  | inr l ↦ let e : i ≡ n = omega arith in
      subst (λ k. of_number (suc n) (Some bytes ∷ map o (range_with_len 1 (suc n))) (suc k) ≡ o (suc k)) (sym e) (opened_last o bytes n)
]
