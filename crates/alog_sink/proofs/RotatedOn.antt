-- The rotation and the files go on to stand for one line more.
use Rattle.std.proofs.Common.{◌≡◌, ℕ, zero, suc, Option, ◌+◌, ◌<◌, ◌≤◌, ◌^◌, Bool, true, false, cond, ltb, ◌&&◌, None, Some, List, []}
use Rattle.std.proofs.Common.{◌∷◌, ◌++◌}
use Rattle.std.proofs.Common.{length, refl, sym, ap, ◌∙◌, subst, inl, inr, append-nil, length-append, arith}
use Rattle.std.proofs.lemmas.Bool.{cases_lt}
use Rattle.std.proofs.lemmas.Bool.Decides.{nat_tests}
use Rattle.std.proofs.lemmas.List.Elements.{All-nil}
use Rattle.std.specs.Option.{unwrap_or}
use Rattle.std.specs.List.{concat}
use Rattle.alog_sink.specs.Files.{Files, AreSame, bytes_of, appended}
use Rattle.alog_sink.specs.Deeds.{Append, all_done}
use Rattle.alog_sink.specs.Rotation.{Limits, Run, size_of, pieces, IsRun, IsCut, IsRotated, kept, places}
use Rattle.alog_sink.specs.Names.{numbered}
use Rattle.alog_sink.specs.RotationDeeds.{Rotating, StandsFor, gives_up, is_full_for, deeds_of, with_line}
use Rattle.alog_sink.proofs.RotatedFiles.{given_up, appended_here, all_done-append}
use Rattle.alog_sink.proofs.RotatedRuns.{by_last, cut_first}
use Rattle.alog_sink.proofs.RotatedPlaces.{base_first, kept_last, opened}
use Rattle.alog_sink.proofs.Rotated.{pieces_more, last_bytes, no_bytes, first_line, line_more, line_new, base_is}

not_full_empty : (size max bytes : ℕ) → size ≡ 0 → (ltb 0 size && ltb max (size + bytes)) ≡ false
not_full_empty size max bytes e = grind (arith, nat_tests)

not_full : (size max bytes : ℕ) → size + bytes ≤ max → (ltb 0 size && ltb max (size + bytes)) ≡ false
not_full size max bytes less = grind (arith, nat_tests)

full : (size max bytes : ℕ) → 0 < size → max < size + bytes → (ltb 0 size && ltb max (size + bytes)) ≡ true
full size max bytes some more = grind (arith, nat_tests)

module _ (r : Rotating) (opening : Files) (lines : List (List ℕ)) where
  alike : (files new : Files) → AreSame files new → IsRotated r.limits opening lines files → IsRotated r.limits opening lines new
  alike files new same is = record {
    runs = is.runs;
    cut = is.cut;
    numbers = λ i at. same _ ∙ is.numbers i at;
    others = λ name differs. same name ∙ is.others name differs;
  }

  pub stands_alike : (files new : Files) → AreSame files new → StandsFor r opening lines files → StandsFor r opening lines new
  stands_alike files new same stands = record {
    rotated = alike files new same stands.rotated;
    counted = stands.counted ∙ ap (λ o. length (unwrap_or o [])) (sym (same r.limits.file));
  }

module _ (r : Rotating) (small : r.limits.max_files < 2 ^ 64) (opening : Files) (lines : List (List ℕ)) (files : Files)
    (stands : StandsFor r opening lines files) (b : ℕ) (bytes : List ℕ) where
  abbrev line : List ℕ
  line = b ∷ bytes

  -- what is to be shown, by whether the base is given up
  abbrev Goal : Bool → Type 0
  Goal f = StandsFor (record r { size = cond f 0 r.size + length line }) opening (lines ++ line ∷ [])
      (all_done (cond f (gives_up r.limits.file r.limits.max_files) [] ++ Append r.limits.file line ∷ []) files)

  stays : IsRotated r.limits opening (lines ++ line ∷ []) (appended r.limits.file line files) → Goal false
  stays is = record {
    rotated = is;
    counted =
        omega (
          arith,
          stands.counted,
          ap (λ o. length (unwrap_or o [])) (appended_here r.limits.file line files),
          length-append (bytes_of files r.limits.file) line,
        );
  }

  goes : IsRotated r.limits opening (lines ++ line ∷ [])
      (appended r.limits.file line (all_done (gives_up r.limits.file r.limits.max_files) files))
      → Goal true
  goes is =
      let same = all_done-append (gives_up r.limits.file r.limits.max_files) (Append r.limits.file line ∷ []) files in
      subst (λ f. StandsFor (record r { size = 0 + length line }) opening (lines ++ line ∷ []) f) (sym same)
      (record {
        rotated = is;
        counted = omega (
          arith,
          ap (λ o. length (unwrap_or o []))
              (appended_here r.limits.file line (all_done (gives_up r.limits.file r.limits.max_files) files)
              ∙ ap (λ o. Some (unwrap_or o [] ++ line)) (given_up r.limits.file r.limits.max_files small files).base),
        );
      })

  cut_at : (runs : List Run) → stands.rotated.runs ≡ runs → IsCut r.limits.max_size (pieces (bytes_of opening r.limits.file) lines) runs
  cut_at runs e = subst (IsCut r.limits.max_size (pieces (bytes_of opening r.limits.file) lines)) e stands.rotated.cut

  numbers_at : (runs : List Run) → stands.rotated.runs ≡ runs → (i : ℕ) → i ≤ r.limits.max_files
      → files (numbered r.limits.file i) ≡ kept r.limits opening runs i
  numbers_at runs e i at = stands.rotated.numbers i at ∙ ap (λ rs. kept r.limits opening rs i) e

  size_is : (front : List Run) (last : Run) → stands.rotated.runs ≡ front ++ last ∷ [] → r.size ≡ size_of last
  size_is front last e =
      stands.counted ∙ ap (λ o. length (unwrap_or o []))
      (base_is r.limits opening lines files b bytes small front last (cut_at _ e) (numbers_at _ e) stands.rotated.others)

  by_runs : Goal (is_full_for r (length line))
  by_runs = elim (by_last stands.rotated.runs) [
    | inl e ↦
        let empty : r.size ≡ 0 = stands.counted ∙ ap length
        (no_bytes r.limits opening lines files b bytes small (cut_at [] e) (numbers_at [] e)) in
        subst Goal (sym (not_full_empty r.size r.limits.max_size (length line) empty))
        (stays (first_line r.limits opening lines files b bytes small (cut_at [] e) (numbers_at [] e) stands.rotated.others))
    | inr w ↦
        let cut = cut_at (w.0 ++ w.1 ∷ []) w.2 in
        let size = size_is w.0 w.1 w.2 in
        elim (cases_lt r.limits.max_size (size_of w.1 + length line)) [
          | inl more ↦
              let some = last_bytes r.limits.max_size (bytes_of opening r.limits.file) lines w.0 w.1 cut in
              subst Goal (sym (full r.size r.limits.max_size (length line) (omega arith) (omega arith)))
              (goes (line_new r.limits opening lines files b bytes small w.0 w.1 cut (numbers_at _ w.2) stands.rotated.others more))
          | inr less ↦
              subst Goal (sym (not_full r.size r.limits.max_size (length line) (omega arith)))
              (stays (line_more r.limits opening lines files b bytes small w.0 w.1 cut (numbers_at _ w.2) stands.rotated.others less))
        ]
  ]

-- the deeds of a line lead from the files of some lines to those of one line more
pub stands_for_more : (r : Rotating) → r.limits.max_files < 2 ^ 64
    → (opening : Files) (lines : List (List ℕ)) (files : Files) (line : List ℕ)
    → StandsFor r opening lines files → StandsFor (with_line r line) opening (lines ++ line ∷ []) (all_done (deeds_of r line) files)
stands_for_more r small opening lines files [] stands = record {
  rotated = record {
    runs = stands.rotated.runs;
    cut = subst (λ ps. IsCut r.limits.max_size ps stands.rotated.runs)
        (sym (pieces_more (bytes_of opening r.limits.file) lines [] ∙ append-nil (pieces (bytes_of opening r.limits.file) lines)))
        stands.rotated.cut;
    numbers = stands.rotated.numbers;
    others = stands.rotated.others;
  };
  counted = stands.counted;
}
stands_for_more r small opening lines files (b ∷ bytes) stands = by_runs r small opening lines files stands b bytes

-- the opening files stand for no line
opens_at : (limits : Limits) (opening : Files) (o : Option (List ℕ)) → opening limits.file ≡ o → IsRotated limits opening [] opening
opens_at limits opening None e = record {
  runs = [];
  cut = subst (λ x. IsCut limits.max_size (pieces (unwrap_or x []) []) []) (sym e)
      (record { joined = refl; each = All-nil (IsRun limits.max_size); full = tt });
  numbers = λ i at. refl;
  others = λ name differs. refl;
}
opens_at limits opening (Some []) e = record {
  runs = [];
  cut = subst (λ x. IsCut limits.max_size (pieces (unwrap_or x []) []) []) (sym e)
      (record { joined = refl; each = All-nil (IsRun limits.max_size); full = tt });
  numbers = λ i at. refl;
  others = λ name differs. refl;
}
opens_at limits opening (Some (b ∷ bytes)) e = record {
  runs = ((b ∷ bytes) ∷ []) ∷ [];
  cut = subst (λ x. IsCut limits.max_size (pieces (unwrap_or x []) []) (((b ∷ bytes) ∷ []) ∷ [])) (sym e)
      (cut_first limits.max_size [] (b ∷ bytes) (record { joined = refl; each = All-nil (IsRun limits.max_size); full = tt }));
  numbers = by_number;
  others = λ name differs. refl;
}
  where
    by_number : (i : ℕ) → i ≤ limits.max_files → opening (numbered limits.file i) ≡ kept limits opening (((b ∷ bytes) ∷ []) ∷ []) i
    by_number zero at =
        e ∙ (ap (λ x. Some x) (sym (append-nil (b ∷ bytes)))
        ∙ sym (kept_last limits opening [] ((b ∷ bytes) ∷ []) 0
        ∙ base_first (concat ((b ∷ bytes) ∷ [])) (places limits opening []) limits.max_files))
    by_number (suc i) at =
        sym (kept_last limits opening [] ((b ∷ bytes) ∷ []) (suc i)
        ∙ opened (λ n. opening (numbered limits.file n)) (concat ((b ∷ bytes) ∷ [])) limits.max_files i at)

pub opens : (r : Rotating) (opening : Files) → r.size ≡ length (bytes_of opening r.limits.file) → StandsFor r opening [] opening
opens r opening size = record { rotated = opens_at r.limits opening (opening r.limits.file) refl; counted = size }
