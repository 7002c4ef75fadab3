-- What the deeds of a rotation leave under each name.
use Rattle.std.proofs.Common.{◌≡◌, ◌≢◌, ℕ, zero, suc, ◌+◌, ◌<◌, ◌≤◌, ◌^◌, Bool, true, false, cond, Option, None, Some, List, [], ◌∷◌, ◌++◌}
use Rattle.std.proofs.Common.{refl, sym, ap, ◌∙◌, subst, inl, inr, Decides, arith}
use Rattle.std.proofs.lemmas.Bool.{cases_lt}
use Rattle.std.specs.Cmp.Lexicographic.{bytes_decides}
use Rattle.std.specs.Option.{unwrap_or}
use Rattle.std.specs.Str.{bytes_eq}
use Rattle.alog_sink.specs.Files.{Files, AreSame, bytes_of, appended, moved, removed, renamed}
use Rattle.alog_sink.specs.Deeds.{Deed, Append, Rename, Remove, done, all_done}
use Rattle.alog_sink.specs.Names.{numbered}
use Rattle.alog_sink.specs.RotationDeeds.{renames, gives_up}
use Rattle.alog_sink.proofs.NamesCut.{numbered_differ}

-- the first where it is there, or else the second
abbrev pub over : Option (List ℕ) → Option (List ℕ) → Option (List ℕ)
over None file = file
over (Some bytes) file = Some bytes

pub over_none : (file : Option (List ℕ)) → over file None ≡ file
over_none None = refl
over_none (Some bytes) = refl

is_false : (b : Bool) {P : Type 0} → Decides b P → ¬ P → b ≡ false
is_false true d differs = absurd (differs (d.0 refl))
is_false false d differs = refl

pub at_same : (name : List ℕ) (x y : Option (List ℕ)) → cond (bytes_eq name name) x y ≡ x
at_same name x y = ap (λ b. cond b x y) ((bytes_decides name name).1 refl)

pub at_other : (name other : List ℕ) (x y : Option (List ℕ)) → name ≢ other → cond (bytes_eq name other) x y ≡ y
at_other name other x y differs = ap (λ b. cond b x y) (is_false (bytes_eq name other) (bytes_decides name other) differs)

-- the same files, the same deeds
pub done_alike : (deed : Deed) (files others : Files) → AreSame files others → AreSame (done deed files) (done deed others)
done_alike (Append name bytes) files others same n =
    ap (λ o. cond (bytes_eq name n) (Some (unwrap_or o [] ++ bytes)) (others n)) (same name)
    ∙ ap (λ o. cond (bytes_eq name n) (Some (bytes_of files name ++ bytes)) o) (same n)
done_alike (Rename from to) files others same n = ap (λ o. moved o from to others n) (same from) ∙ moved_alike (files from)
  where
    moved_alike : (o : Option (List ℕ)) → moved o from to others n ≡ moved o from to files n
    moved_alike None = same n
    moved_alike (Some bytes) = ap (λ o. cond (bytes_eq to n) (Some bytes) (cond (bytes_eq from n) None o)) (same n)
done_alike (Remove name) files others same n = ap (λ o. cond (bytes_eq name n) None o) (same n)

pub all_alike : (deeds : List Deed) (files others : Files) → AreSame files others → AreSame (all_done deeds files) (all_done deeds others)
all_alike [] files others same = same
all_alike (d ∷ deeds) files others same = all_alike deeds (done d files) (done d others) (done_alike d files others same)

pub all_done-append : (deeds more : List Deed) (files : Files) → all_done (deeds ++ more) files ≡ all_done more (all_done deeds files)
all_done-append [] more files = refl
all_done-append (d ∷ deeds) more files = all_done-append deeds more (done d files)

module _ (name bytes : List ℕ) (files : Files) where
  pub appended_here : appended name bytes files name ≡ Some (bytes_of files name ++ bytes)
  appended_here = at_same name (Some (bytes_of files name ++ bytes)) (files name)

  pub appended_there : (other : List ℕ) → name ≢ other → appended name bytes files other ≡ files other
  appended_there other differs = at_other name other (Some (bytes_of files name ++ bytes)) (files other) differs

module _ (from to : List ℕ) (files : Files) (apart : from ≢ to) where
  moved_to : (o : Option (List ℕ)) → moved o from to files to ≡ over o (files to)
  moved_to None = refl
  moved_to (Some bytes) = at_same to (Some bytes) (removed from files to)

  moved_from : (o : Option (List ℕ)) → files from ≡ o → moved o from to files from ≡ None
  moved_from None e = e
  moved_from (Some bytes) e =
      at_other to from (Some bytes) (removed from files from) (λ same. apart (sym same)) ∙ at_same from None (files from)

  moved_there : (o : Option (List ℕ)) (other : List ℕ) → from ≢ other → to ≢ other → moved o from to files other ≡ files other
  moved_there None other _ _ = refl
  moved_there (Some bytes) other differs differs' =
      at_other to other (Some bytes) (removed from files other) differs' ∙ at_other from other None (files other) differs

  pub renamed_to : renamed from to files to ≡ over (files from) (files to)
  renamed_to = moved_to (files from)

  pub renamed_from : renamed from to files from ≡ None
  renamed_from = moved_from (files from) refl

  pub renamed_there : (other : List ℕ) → from ≢ other → to ≢ other → renamed from to files other ≡ files other
  renamed_there = moved_there (files from)

-- what number i has once each number was renamed to the next: number i - 1 before it
abbrev pub below : List ℕ → Files → ℕ → Option (List ℕ)
below file files zero = None
below file files (suc i) = files (numbered file i)

-- what the greatest of them has: number n - 1 before it, where that is there
abbrev pub topmost : List ℕ → Files → ℕ → Option (List ℕ)
topmost file files zero = files (numbered file 0)
topmost file files (suc i) = over (files (numbered file i)) (files (numbered file (suc i)))

pub apart : (file : List ℕ) (i j : ℕ) → i < 2 ^ 64 → j < 2 ^ 64 → i ≢ j → numbered file i ≢ numbered file j
apart file i j si sj differs e = differs (numbered_differ file i j si sj e)

-- each number up to n was renamed to the next, from n - 1 down
pub record Shifted (file : List ℕ) (n : ℕ) (files after : Files) : Type 0 where
  pub top : after (numbered file n) ≡ topmost file files n
  pub under : (i : ℕ) → i < n → after (numbered file i) ≡ below file files i
  pub rest : (name : List ℕ) → ((i : ℕ) → i ≤ n → numbered file i ≢ name) → after name ≡ files name

module _ (file : List ℕ) (n : ℕ) (small : n + 1 < 2 ^ 64) (files : Files) where
  abbrev once : Files
  once = renamed (numbered file n) (numbered file (suc n)) files

  next : numbered file n ≢ numbered file (suc n)
  next = apart file n (suc n) (omega arith) (omega arith) (omega arith)

  kept_once : (i : ℕ) → i < n → once (numbered file i) ≡ files (numbered file i)
  kept_once i less =
      renamed_there (numbered file n) (numbered file (suc n)) files next (numbered file i)
      (apart file n i (omega arith) (omega arith) (omega arith)) (apart file (suc n) i (omega arith) (omega arith) (omega arith))

  below_once : (i : ℕ) → i < n → below file once i ≡ below file files i
  below_once zero less = refl
  below_once (suc i) less = kept_once i (omega arith)

topmost_once : (file : List ℕ) (n : ℕ) → n + 1 < 2 ^ 64 → (files : Files)
    → topmost file (renamed (numbered file n) (numbered file (suc n)) files) n ≡ below file files n
topmost_once file zero small files = renamed_from (numbered file 0) (numbered file 1) files (next file 0 small files)
topmost_once file (suc m) small files =
    ap (λ o. over (once file (suc m) small files (numbered file m)) o)
    (renamed_from (numbered file (suc m)) (numbered file (suc (suc m))) files (next file (suc m) small files))
    ∙ (over_none (once file (suc m) small files (numbered file m)) ∙ kept_once file (suc m) small files m (omega arith))

module _ (file : List ℕ) (n : ℕ) (small : n + 1 < 2 ^ 64) (files : Files) where
  step : (after : Files) → Shifted file n (renamed (numbered file n) (numbered file (suc n)) files) after → Shifted file (suc n) files after
  step after later = record {
    top =
        later.rest (numbered file (suc n)) (λ i less. apart file i (suc n) (omega arith) (omega arith) (omega arith))
        ∙ renamed_to (numbered file n) (numbered file (suc n)) files (next file n small files);
    under = λ i less. elim (cases_lt i n) [
      | inl l ↦ later.under i l ∙ below_once file n small files i l
      | inr l ↦ let e : i ≡ n = omega arith in subst (λ j. after (numbered file j) ≡ below file files j) (sym e)
          (later.top ∙ topmost_once file n small files)
    ];
    rest = λ name differs.
        later.rest name (λ i less. differs i (omega arith))
        ∙ renamed_there (numbered file n) (numbered file (suc n)) files (next file n small files) name (differs n (omega arith))
        (differs (suc n) (omega arith));
  }

pub shifted : (file : List ℕ) (n : ℕ) → n < 2 ^ 64 → (files : Files) → Shifted file n files (all_done (renames file n) files)
shifted file zero small files = record { top = refl; under = λ i less. absurd (omega arith); rest = λ name _. refl }
shifted file (suc n) small files =
    step file n (omega arith) files (all_done (renames file (suc n)) files)
    (shifted file n (omega arith) (renamed (numbered file n) (numbered file (suc n)) files))

-- the base was given up: its bytes are number 1, or gone where no further file is kept
pub record GivenUp (file : List ℕ) (max : ℕ) (files after : Files) : Type 0 where
  pub base : after file ≡ None
  pub under : (i : ℕ) → suc i < max → after (numbered file (suc i)) ≡ files (numbered file i)
  pub top : (i : ℕ) → suc i ≡ max → after (numbered file (suc i)) ≡ over (files (numbered file i)) (files (numbered file (suc i)))
  pub rest : (name : List ℕ) → ((i : ℕ) → i ≤ max → numbered file i ≢ name) → after name ≡ files name

pub given_up : (file : List ℕ) (max : ℕ) → max < 2 ^ 64 → (files : Files) → GivenUp file max files (all_done (gives_up file max) files)
given_up file zero small files = record {
  base = at_same file None (files file);
  under = λ i less. absurd (omega arith);
  top = λ i e. absurd (omega arith);
  rest = λ name differs. at_other file name None (files name) (differs 0 (omega arith));
}
given_up file (suc n) small files =
    let all = shifted file (suc n) small files in
    record {
      base = all.under 0 (omega arith);
      under = λ i less. all.under (suc i) less;
      top = λ i e.
          let same : i ≡ n = omega arith in
          subst (λ j. all_done (gives_up file (suc n)) files (numbered file (suc j))
          ≡ over (files (numbered file j)) (files (numbered file (suc j)))) (sym same) all.top;
      rest = all.rest;
    }
