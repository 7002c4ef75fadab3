-- The deeds of a line lead from the files of some lines to those of one line more.
use Rattle.std.proofs.Common.{◌≡◌, ◌≢◌, ℕ, zero, suc, ◌+◌, ◌<◌, ◌≤◌, ◌^◌, true, Some, List, [], ◌∷◌, ◌++◌}
use Rattle.std.proofs.Common.{length, refl, sym, ap, ◌∙◌, subst, inl, inr, append-nil, arith}
use Rattle.std.proofs.lemmas.Bool.{cases_lt}
use Rattle.std.proofs.lemmas.List.Elements.{filter-append, filter_passes, All-head}
use Rattle.std.proofs.lemmas.List.Concat.{flat_map-append}
use Rattle.std.specs.List.{All, concat, filter, flat_map}
use Rattle.std.specs.Option.{unwrap_or}
use Rattle.alog_sink.specs.Files.{Files, bytes_of, appended}
use Rattle.alog_sink.specs.Deeds.{all_done}
use Rattle.alog_sink.specs.Names.{numbered}
use Rattle.alog_sink.specs.Rotation.{Limits, Run, has_bytes, pieces, size_of, IsCut, kept, IsRotated, places, of_number}
use Rattle.alog_sink.specs.RotationDeeds.{gives_up}
use Rattle.alog_sink.proofs.RotatedFiles.{over, apart, GivenUp, given_up, appended_here, appended_there}
use Rattle.alog_sink.proofs.RotatedRuns.{all_right, last_run, concat-append, cut_first, cut_new, cut_grown}
use Rattle.alog_sink.proofs.RotatedPlaces.{base_first, moved_on, moved_on_last, same_above, kept_is, kept_last, opened}

-- the pieces of one line more
pub pieces_more : (base : List ℕ) (lines : List (List ℕ)) (line : List ℕ) → pieces base (lines ++ line ∷ [])
    ≡ pieces base lines ++ filter has_bytes (line ∷ [])
pieces_more base lines line = filter-append has_bytes (base ∷ lines) (line ∷ [])

-- the base has bytes if it is a piece
no_base : (base : List ℕ) (lines : List (List ℕ)) → pieces base lines ≡ [] → base ≡ []
no_base [] lines e = refl
no_base (b ∷ base) lines e = absurd (cc)

-- the last run has bytes
pub last_bytes : (max : ℕ) (base : List ℕ) (lines : List (List ℕ)) (front : List Run) (last : Run)
    → IsCut max (pieces base lines) (front ++ last ∷ []) → 0 < size_of last
last_bytes max base lines front last cut = of_first last (last_run max front last cut.each).some all
  where
    all : All (λ piece. has_bytes piece ≡ true) last
    all =
        all_right (λ piece. has_bytes piece ≡ true) (flat_map (λ (run : Run). run) front) last
        (subst (All (λ piece. has_bytes piece ≡ true))
        (sym cut.joined ∙ (flat_map-append (λ (run : Run). run) front (last ∷ [])
        ∙ ap (λ xs. flat_map (λ (run : Run). run) front ++ xs) (append-nil last)))
        (filter_passes has_bytes (base ∷ lines)))

    of_first : (run : Run) → 1 ≤ length run → All (λ piece. has_bytes piece ≡ true) run → 0 < size_of run
    of_first [] some h = absurd (omega arith)
    of_first ([] ∷ run) some h = absurd (let e = All-head (λ piece. has_bytes piece ≡ true) [] run h in cc)
    of_first ((b ∷ piece) ∷ run) some h = omega arith

module _ (limits : Limits) (opening : Files) (lines : List (List ℕ)) (files : Files) (b : ℕ) (bytes : List ℕ)
    (small : limits.max_files < 2 ^ 64) where
  abbrev line : List ℕ
  line = b ∷ bytes

  apart_from_base : (i : ℕ) → suc i ≤ limits.max_files → limits.file ≢ numbered limits.file (suc i)
  apart_from_base i less = apart limits.file 0 (suc i) (omega arith) (omega arith) (omega arith)

  -- the base takes the line, in files in which the others are so
  abbrev takes : Files → Files
  takes after = appended limits.file line after

  others_stay : (after : Files)
      → ((name : List ℕ) → ((i : ℕ) → i ≤ limits.max_files → numbered limits.file i ≢ name) → after name ≡ opening name)
      → (name : List ℕ) → ((i : ℕ) → i ≤ limits.max_files → numbered limits.file i ≢ name) → takes after name ≡ opening name
  others_stay after stay name differs = appended_there limits.file line after name (differs 0 (omega arith)) ∙ stay name differs

  -- without a piece the base is empty
  pub no_bytes : IsCut limits.max_size (pieces (bytes_of opening limits.file) lines) []
      → ((i : ℕ) → i ≤ limits.max_files → files (numbered limits.file i) ≡ opening (numbered limits.file i))
      → bytes_of files limits.file ≡ []
  no_bytes cut numbers =
      ap (λ o. unwrap_or o []) (numbers 0 (omega arith)) ∙ no_base (bytes_of opening limits.file) lines (sym cut.joined)

  -- the first piece
  pub first_line : IsCut limits.max_size (pieces (bytes_of opening limits.file) lines) []
      → ((i : ℕ) → i ≤ limits.max_files → files (numbered limits.file i) ≡ opening (numbered limits.file i))
      → ((name : List ℕ) → ((i : ℕ) → i ≤ limits.max_files → numbered limits.file i ≢ name) → files name ≡ opening name)
      → IsRotated limits opening (lines ++ line ∷ []) (takes files)
  first_line cut numbers others = record {
    runs = (line ∷ []) ∷ [];
    cut = subst (λ ps. IsCut limits.max_size ps ((line ∷ []) ∷ [])) (sym (pieces_more (bytes_of opening limits.file) lines line))
        (cut_first limits.max_size (pieces (bytes_of opening limits.file) lines) line cut);
    numbers = by_number;
    others = others_stay files others;
  }
    where
      by_number : (i : ℕ) → i ≤ limits.max_files → takes files (numbered limits.file i) ≡ kept limits opening ((line ∷ []) ∷ []) i
      by_number zero less =
          appended_here limits.file line files ∙ (ap (λ o. Some (o ++ line)) (no_bytes cut numbers)
          ∙ (ap (λ o. Some o) (sym (append-nil line))
          ∙ sym (kept_last limits opening [] (line ∷ []) 0 ∙ base_first (concat (line ∷ [])) (places limits opening []) limits.max_files)))
      by_number (suc i) less =
          appended_there limits.file line files (numbered limits.file (suc i)) (apart_from_base i less)
          ∙ (numbers (suc i) less
          ∙ sym (kept_last limits opening [] (line ∷ []) (suc i)
          ∙ opened (λ n. opening (numbered limits.file n)) (concat (line ∷ [])) limits.max_files i less))

  module _ (front : List Run) (last : Run) (cut : IsCut limits.max_size (pieces (bytes_of opening limits.file) lines) (front ++ last ∷ []))
      (numbers : (i : ℕ) → i ≤ limits.max_files → files (numbered limits.file i) ≡ kept limits opening (front ++ last ∷ []) i)
      (others : (name : List ℕ) → ((i : ℕ) → i ≤ limits.max_files → numbered limits.file i ≢ name) → files name ≡ opening name) where
    pub base_is : files limits.file ≡ Some (concat last)
    base_is = numbers 0 (omega arith) ∙ (kept_last limits opening front last 0
        ∙ base_first (concat last) (places limits opening front) limits.max_files)

    -- the line goes on with the last run
    pub line_more : size_of last + length line ≤ limits.max_size → IsRotated limits opening (lines ++ line ∷ []) (takes files)
    line_more less = record {
      runs = front ++ (last ++ line ∷ []) ∷ [];
      cut = subst (λ ps. IsCut limits.max_size ps (front ++ (last ++ line ∷ []) ∷ []))
          (sym (pieces_more (bytes_of opening limits.file) lines line))
          (cut_grown limits.max_size (pieces (bytes_of opening limits.file) lines) line front last cut less);
      numbers = by_number;
      others = others_stay files others;
    }
      where
        by_number : (i : ℕ) → i ≤ limits.max_files → takes files (numbered limits.file i)
            ≡ kept limits opening (front ++ (last ++ line ∷ []) ∷ []) i
        by_number zero at =
            appended_here limits.file line files ∙ (ap (λ o. Some (unwrap_or o [] ++ line)) base_is
            ∙ (ap (λ o. Some o) (sym (concat-append last (line ∷ []) ∙ ap (λ x. concat last ++ x) (append-nil line)))
            ∙ sym (kept_last limits opening front (last ++ line ∷ []) 0
            ∙ base_first (concat (last ++ line ∷ [])) (places limits opening front) limits.max_files)))
        by_number (suc i) at =
            appended_there limits.file line files (numbered limits.file (suc i)) (apart_from_base i at)
            ∙ (numbers (suc i) at ∙ (kept_last limits opening front last (suc i)
            ∙ (same_above (concat last) (places limits opening front) (concat (last ++ line ∷ [])) limits.max_files i at
            ∙ sym (kept_last limits opening front (last ++ line ∷ []) (suc i)))))

    -- the line opens a run
    pub line_new : limits.max_size < size_of last + length line
        → IsRotated limits opening (lines ++ line ∷ []) (takes (all_done (gives_up limits.file limits.max_files) files))
    line_new more = record {
      runs = (front ++ last ∷ []) ++ (line ∷ []) ∷ [];
      cut = subst (λ ps. IsCut limits.max_size ps ((front ++ last ∷ []) ++ (line ∷ []) ∷ []))
          (sym (pieces_more (bytes_of opening limits.file) lines line))
          (cut_new limits.max_size (pieces (bytes_of opening limits.file) lines) line front last cut more);
      numbers = by_number;
      others = others_stay (all_done (gives_up limits.file limits.max_files) files)
          (λ name differs. up.rest name differs ∙ others name differs);
    }
      where
        up : GivenUp limits.file limits.max_files files (all_done (gives_up limits.file limits.max_files) files)
        up = given_up limits.file limits.max_files small files

        old : (i : ℕ) → i ≤ limits.max_files
            → files (numbered limits.file i) ≡ of_number limits.max_files (places limits opening (front ++ last ∷ [])) i
        old i at = numbers i at ∙ kept_is limits opening front last i

        by_number : (i : ℕ) → i ≤ limits.max_files
            → takes (all_done (gives_up limits.file limits.max_files) files) (numbered limits.file i)
            ≡ kept limits opening ((front ++ last ∷ []) ++ (line ∷ []) ∷ []) i
        by_number zero at =
            appended_here limits.file line (all_done (gives_up limits.file limits.max_files) files)
            ∙ (ap (λ o. Some (unwrap_or o [] ++ line)) up.base ∙ (ap (λ o. Some o) (sym (append-nil line))
            ∙ sym (kept_last limits opening (front ++ last ∷ []) (line ∷ []) 0
            ∙ base_first (concat (line ∷ [])) (places limits opening (front ++ last ∷ [])) limits.max_files)))
        by_number (suc i) at =
            appended_there limits.file line (all_done (gives_up limits.file limits.max_files) files) (numbered limits.file (suc i))
            (apart_from_base i at)
            ∙ (elim (cases_lt (suc i) limits.max_files) [
              | inl l ↦ up.under i l ∙ (old i (omega arith)
                  ∙ sym (moved_on (concat (line ∷ [])) (places limits opening (front ++ last ∷ [])) limits.max_files i l))
              | inr l ↦ let e : suc i ≡ limits.max_files = omega arith in
                  up.top i e ∙ (ap (λ o. over o (files (numbered limits.file (suc i)))) (old i (omega arith))
                  ∙ (ap (λ o. over (of_number limits.max_files (places limits opening (front ++ last ∷ [])) i) o) (old (suc i) at)
                  ∙ sym (moved_on_last (concat (line ∷ [])) (places limits opening (front ++ last ∷ [])) limits.max_files i e)))
            ]
            ∙ sym (kept_last limits opening (front ++ last ∷ []) (line ∷ []) (suc i)))
