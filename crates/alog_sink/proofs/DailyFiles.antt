-- The deeds of an entry lead from the files of some entries to those of one entry more.
use Rattle.std.proofs.Common.{◌≡◌, ◌≢◌, ℕ, zero, suc, ◌+◌, ◌-◌, ◌<◌, ◌≤◌, Bool, true, false, cond, ltb, None, Some}
use Rattle.std.proofs.Common.{List, [], ◌∷◌, ◌++◌, length, get_or, drop, fold, refl, sym, ap, ◌∙◌, subst, inl, inr, ◌⊎◌, Decides}
use Rattle.std.proofs.Common.{append-nil, append_assoc, length-append, arith}
use Rattle.std.specs.Cmp.Lexicographic.{bytes_decides}
use Rattle.std.specs.List.{concat, AllPairs, Contains}
use Rattle.std.specs.Option.{unwrap_or}
use Rattle.std.specs.Str.{bytes_eq}
use Rattle.std.proofs.lemmas.Bool.{cases_lt}
use Rattle.std.proofs.lemmas.Bool.Decides.{nat_tests}
use Rattle.std.proofs.lemmas.List.{get_or-drop, get_or_push, get_or_default, drop_more, drop-append-le, length-drop}
use Rattle.std.proofs.lemmas.List.Elements.{Contains-get_or, Contains-push, Contains-push_cases, Contains-append_left}
use Rattle.std.proofs.lemmas.List.Elements.{Contains-append_right, Contains-append_cases}
use Rattle.std.proofs.lemmas.List.Sums.{fold-append}
use Rattle.std.proofs.lemmas.List.Quantifiers.{all_pairs_push}
use Rattle.alog_sink.specs.Files.{Files, bytes_of, appended, removed}
use Rattle.alog_sink.specs.Deeds.{Append, Remove, all_done}
use Rattle.alog_sink.specs.Daily.{Entry, Segment, AreSegments, none, begun, gone_on, opens, lines_of, last_name, is_last, with_name}
use Rattle.alog_sink.specs.Daily.{opened_names, kept_names, IsDaily}
use Rattle.alog_sink.specs.DailyDeeds.{makes_way, opening_deeds, DaysGoOn}
use Rattle.alog_sink.proofs.RotatedFiles.{all_done-append, appended_here, appended_there, at_same, at_other}
use Rattle.alog_sink.proofs.RotatedRuns.{by_last, concat-append}

-- the same name or another
same_or_not : (a b : List ℕ) → (a ≡ b) ⊎ (a ≢ b)
same_or_not a b = by (bytes_eq a b) (bytes_decides a b)
  where
    by : (r : Bool) → Decides r (a ≡ b) → (a ≡ b) ⊎ (a ≢ b)
    by true d = inl (d.0 refl)
    by false d = inr (λ e. absurd (let f = d.1 e in cc))

pub test_same : (a : List ℕ) → bytes_eq a a ≡ true
test_same a = (bytes_decides a a).1 refl

pub test_other : (a b : List ℕ) → a ≢ b → bytes_eq a b ≡ false
test_other a b differs = by (bytes_eq a b) (bytes_decides a b)
  where
    by : (r : Bool) → Decides r (a ≡ b) → r ≡ false
    by true d = absurd (differs (d.0 refl))
    by false d = refl

lines_of-append : (name : List ℕ) (xs ys : List Segment) → lines_of name (xs ++ ys) ≡ lines_of name xs ++ lines_of name ys
lines_of-append name [] ys = refl
lines_of-append name (s ∷ xs) ys =
    ap (λ ls. cond (bytes_eq s.name name) s.lines [] ++ ls) (lines_of-append name xs ys)
    ∙ sym (append_assoc (cond (bytes_eq s.name name) s.lines []) (lines_of name xs) (lines_of name ys))

lines_last : (name : List ℕ) (xs : List Segment) (s : Segment)
    → lines_of name (xs ++ s ∷ []) ≡ lines_of name xs ++ cond (bytes_eq s.name name) s.lines []
lines_last name xs s =
    lines_of-append name xs (s ∷ []) ∙ ap (λ ls. lines_of name xs ++ ls) (append-nil (cond (bytes_eq s.name name) s.lines []))

lines_here : (xs : List Segment) (s : Segment) → lines_of s.name (xs ++ s ∷ []) ≡ lines_of s.name xs ++ s.lines
lines_here xs s = lines_last s.name xs s ∙ ap (λ b. lines_of s.name xs ++ cond b s.lines []) (test_same s.name)

lines_there : (name : List ℕ) (xs : List Segment) (s : Segment) → s.name ≢ name → lines_of name (xs ++ s ∷ []) ≡ lines_of name xs
lines_there name xs s differs =
    lines_last name xs s ∙ (ap (λ b. lines_of name xs ++ cond b s.lines []) (test_other s.name name differs)
    ∙ append-nil (lines_of name xs))

pub opened_more : (xs : List Segment) (s : Segment) → opened_names (xs ++ s ∷ []) ≡ with_name (opened_names xs) s.name
opened_more xs s = fold-append (λ names (x : Segment). with_name names x.name) [] xs (s ∷ [])

pub last_pushed : (front : List (List ℕ)) (name : List ℕ) → last_name (front ++ name ∷ []) ≡ name
last_pushed front name = get_or_push front name [] (length (front ++ name ∷ []) - 1) (omega (arith, length-append front (name ∷ [])))

pub is_last_name : (name : List ℕ) (names : List (List ℕ)) → is_last name names ≡ true → last_name names ≡ name
is_last_name name [] e = absurd (cc)
is_last_name name (n ∷ names) e = (bytes_decides (last_name (n ∷ names)) name).0 e

pub last_with_name : (names : List (List ℕ)) (name : List ℕ) → last_name (with_name names name) ≡ name
last_with_name names name = by (is_last name names) refl
  where
    by : (b : Bool) → is_last name names ≡ b → last_name (cond b names (names ++ name ∷ [])) ≡ name
    by true e = is_last_name name names e
    by false e = last_pushed names name

no_segments : (entries : List Entry) (segments : List Segment) → AreSegments entries segments → segments ≡ [] → entries ≡ []
no_segments _ _ none e = refl
no_segments _ _ (begun entries segments entry cut at) e = absurd
    (let l = ap length e in omega (arith, length-append segments (record { name = entry.name; lines = entry.line ∷ [] } ∷ [])))
no_segments _ _ (gone_on entries segments last entry cut at) e = absurd
    (let l = ap length e in omega (arith, length-append segments (record last { lines = last.lines ++ entry.line ∷ [] } ∷ [])))

-- names, and those that are kept
kept_in : (max : ℕ) (names : List (List ℕ)) (name : List ℕ) → Contains (kept_names max names) name → Contains names name
kept_in zero names name h = h
kept_in (suc n) names name h = (
  length names - suc n + h.0,
  omega (arith, length-drop (length names - suc n) names),
  sym (get_or-drop (length names - suc n) names h.0 name) ∙ h.2,
)

last_kept : (max : ℕ) (front : List (List ℕ)) (name : List ℕ) → Contains (kept_names max (front ++ name ∷ [])) name
last_kept zero front name = Contains-push front name
last_kept (suc n) front name =
    subst (λ names. Contains names name)
    (sym (drop-append-le (length (front ++ name ∷ []) - suc n) front (name ∷ []) (omega (arith, length-append front (name ∷ [])))))
    (Contains-push (drop (length (front ++ name ∷ []) - suc n) front) name)

with_name_has : (names : List (List ℕ)) (name : List ℕ) → Contains (with_name names name) name
with_name_has names name = by (is_last name names) refl
  where
    by : (b : Bool) → is_last name names ≡ b → Contains (cond b names (names ++ name ∷ [])) name
    by true e = elim (by_last names) [
      | inl empty ↦ absurd (let f = ap (is_last name) empty in cc)
      | inr w ↦
          let last : w.1 ≡ name = sym (last_pushed w.0 w.1) ∙ (ap last_name (sym w.2) ∙ is_last_name name names e) in
          subst (λ ns. Contains ns name) (sym w.2) (subst (Contains (w.0 ++ w.1 ∷ [])) last (Contains-push w.0 w.1))
    ]
    by false e = Contains-push names name

with_name_keeps : (names : List (List ℕ)) (name other : List ℕ) → Contains names other → Contains (with_name names name) other
with_name_keeps names name other h = by (is_last name names)
  where
    by : (b : Bool) → Contains (cond b names (names ++ name ∷ [])) other
    by true = h
    by false = Contains-append_left names (name ∷ []) other h

abbrev all_opened : List (List ℕ) → List Segment → List (List ℕ)
all_opened names segments = fold (λ ns s. with_name ns s.name) names segments

opened_keeps : (names : List (List ℕ)) (segments : List Segment) (name : List ℕ) → Contains names name
    → Contains (all_opened names segments) name
opened_keeps names [] name h = h
opened_keeps names (s ∷ segments) name h = opened_keeps (with_name names s.name) segments name (with_name_keeps names s.name name h)

no_lines : (names : List (List ℕ)) (segments : List Segment) (name : List ℕ) → ¬ Contains (all_opened names segments) name
    → lines_of name segments ≡ []
no_lines names [] name missing = refl
no_lines names (s ∷ segments) name missing =
    ap (λ b. cond b s.lines [] ++ lines_of name segments) (test_other s.name name
    (λ e. missing (opened_keeps (with_name names s.name) segments name
    (subst (Contains (with_name names s.name)) e (with_name_has names s.name)))))
    ∙ no_lines (with_name names s.name) segments name missing

module _ (max : ℕ) (names : List (List ℕ)) (opening : Files) (entries : List Entry) (files : Files)
    (is : IsDaily max names opening entries files)
    (line : List ℕ) where
  -- a line more for a name that is kept
  line_more : (more : List Entry) (segments : List Segment) (name : List ℕ) → AreSegments more segments → opened_names segments ≡ names
      → Contains (kept_names max names) name → lines_of name segments ≡ lines_of name is.segments ++ line ∷ []
      → ((other : List ℕ) → name ≢ other → lines_of other segments ≡ lines_of other is.segments)
      → IsDaily max names opening more (appended name line files)
  line_more more segments name cut opened in_kept here there = record {
    segments = segments;
    cut = cut;
    opened = opened;
    distinct = is.distinct;
    kept = λ other h. elim (same_or_not name other) [
      | inl e ↦ subst (λ n. appended name line files n ≡ Some (bytes_of opening n ++ concat (lines_of n segments))) e this
      | inr differs ↦ appended_there name line files other differs ∙ (is.kept other h
          ∙ ap (λ ls. Some (bytes_of opening other ++ concat ls)) (sym (there other differs)))
    ];
    gone = λ other h not. appended_there name line files other (λ e. not (subst (Contains (kept_names max names)) e in_kept))
        ∙ is.gone other h not;
    others = λ other not.
        appended_there name line files other (λ e. not (subst (Contains names) e (kept_in max names name in_kept))) ∙ is.others other not;
  }
    where
      joined : concat (lines_of name is.segments) ++ line ≡ concat (lines_of name segments)
      joined =
          sym (ap concat here ∙ (concat-append (lines_of name is.segments) (line ∷ [])
          ∙ ap (λ xs. concat (lines_of name is.segments) ++ xs) (append-nil line)))

      this : appended name line files name ≡ Some (bytes_of opening name ++ concat (lines_of name segments))
      this =
          appended_here name line files ∙ (ap (λ o. Some (unwrap_or o [] ++ line)) (is.kept name in_kept)
          ∙ (ap (λ xs. Some xs) (append_assoc (bytes_of opening name) (concat (lines_of name is.segments)) line)
          ∙ ap (λ xs. Some (bytes_of opening name ++ xs)) joined))

-- the last of some names is kept
kept_last : (max : ℕ) (names : List (List ℕ)) (name : List ℕ) → Contains names name → last_name names ≡ name
    → Contains (kept_names max names) name
kept_last max names name has last = elim (by_last names) [
  | inl empty ↦ absurd (let less = has.1 in omega (arith, ap length empty))
  | inr w ↦
      let e : w.1 ≡ name = sym (last_pushed w.0 w.1) ∙ (ap last_name (sym w.2) ∙ last) in
      subst (λ ns. Contains (kept_names max ns) name) (sym w.2)
      (subst (Contains (kept_names max (w.0 ++ w.1 ∷ []))) e (last_kept max w.0 w.1))
]

module _ (max : ℕ) (names : List (List ℕ)) (opening : Files) (entries : List Entry) (files : Files)
    (is : IsDaily max names opening entries files)
    (entry : Entry) where
  abbrev new_segment : Segment
  new_segment = record { name = entry.name; lines = entry.line ∷ [] }

  -- an entry that opens nothing
  goes_on : opens entries entry ≡ false
      → IsDaily max names opening (entries ++ entry ∷ []) (appended (last_name names) entry.line files)
  goes_on late = elim (by_last is.segments) [
    | inl empty ↦
        let no_entries = no_segments entries is.segments is.cut empty in
        absurd (let f = ap (λ es. opens es entry) no_entries in cc)
    | inr w ↦
        let last = w.1 in
        let longer : Segment = record last { lines = last.lines ++ entry.line ∷ [] } in
        let cut = subst (AreSegments entries) w.2 is.cut in
        let named : with_name (opened_names w.0) last.name ≡ names = sym (opened_more w.0 last) ∙ (ap opened_names (sym w.2) ∙ is.opened) in
        let at_last : last_name names ≡ last.name = ap last_name (sym named) ∙ last_with_name (opened_names w.0) last.name in
        let has : Contains names last.name = subst (λ ns. Contains ns last.name) named (with_name_has (opened_names w.0) last.name) in
        subst (λ n. IsDaily max names opening (entries ++ entry ∷ []) (appended n entry.line files)) (sym at_last)
        (line_more max names opening entries files is entry.line (entries ++ entry ∷ []) (w.0 ++ longer ∷ []) last.name
        (gone_on entries w.0 last entry cut late) (opened_more w.0 longer ∙ named)
        (kept_last max names last.name has at_last)
        (lines_here w.0 longer ∙ (sym (append_assoc (lines_of last.name w.0) last.lines (entry.line ∷ []))
        ∙ ap (λ ls. ls ++ entry.line ∷ []) (sym (ap (lines_of last.name) w.2 ∙ lines_here w.0 last))))
        (λ other differs. lines_there other w.0 longer differs ∙ sym (ap (lines_of other) w.2 ∙ lines_there other w.0 last differs)))
  ]

  -- an entry that opens the last name again
  opens_again : opens entries entry ≡ true → is_last entry.name names ≡ true
      → IsDaily max names opening (entries ++ entry ∷ []) (appended entry.name entry.line files)
  opens_again early again =
      let has : Contains names entry.name =
      subst (λ b. Contains (cond b names (names ++ entry.name ∷ [])) entry.name) again (with_name_has names entry.name) in
      line_more max names opening entries files is entry.line (entries ++ entry ∷ []) (is.segments ++ new_segment ∷ []) entry.name
      (begun entries is.segments entry is.cut early)
      (opened_more is.segments new_segment ∙ (ap (λ ns. with_name ns entry.name) is.opened
      ∙ ap (λ b. cond b names (names ++ entry.name ∷ [])) again))
      (kept_last max names entry.name has (is_last_name entry.name names again))
      (lines_here is.segments new_segment)
      (λ other differs. lines_there other is.segments new_segment differs)

-- the name that is pushed out was removed before a new name
record MakesWay (max : ℕ) (names : List (List ℕ)) (name : List ℕ) (files after : Files) : Type 0 where
  kept : (other : List ℕ) → Contains (kept_names max (names ++ name ∷ [])) other → name ≢ other
      → (after other ≡ files other) × Contains (kept_names max names) other
  gone : (other : List ℕ) → Contains names other → ¬ Contains (kept_names max (names ++ name ∷ [])) other
      → (after other ≡ None) ⊎ ((after other ≡ files other) × ¬ Contains (kept_names max names) other)
  rest : (other : List ℕ) → ¬ Contains names other → after other ≡ files other

not_new : (names : List (List ℕ)) (name other : List ℕ) → Contains (names ++ name ∷ []) other → name ≢ other → Contains names other
not_new names name other h differs = elim (Contains-push_cases names name other h) [
  | inl has ↦ has
  | inr e ↦ absurd (differs e)
]

all_kept : (max : ℕ) (names : List (List ℕ)) (name : List ℕ) (files : Files) → kept_names max (names ++ name ∷ []) ≡ names ++ name ∷ []
    → kept_names max names ≡ names → MakesWay max names name files files
all_kept max names name files more same = record {
  kept = λ other h differs.
      (refl, subst (λ ns. Contains ns other) (sym same) (not_new names name other (subst (λ ns. Contains ns other) more h) differs));
  gone = λ other has not. absurd (not (subst (λ ns. Contains ns other) (sym more) (Contains-append_left names (name ∷ []) other has)));
  rest = λ other not. refl;
}

-- the first of the kept names was removed
module _ (n : ℕ) (names : List (List ℕ)) (name : List ℕ) (files : Files) (distinct : AllPairs ◌≢◌ names) (less : n < length names) where
  abbrev place : ℕ
  place = length names - suc n

  abbrev out : List ℕ
  out = get_or names place []

  kept_was : kept_names (suc n) names ≡ out ∷ drop (place + 1) names
  kept_was = drop_more names place [] (omega arith)

  kept_is : kept_names (suc n) (names ++ name ∷ []) ≡ drop (place + 1) names ++ name ∷ []
  kept_is =
      ap (λ j. drop j (names ++ name ∷ [])) (omega (arith, length-append names (name ∷ [])))
      ∙ drop-append-le (place + 1) names (name ∷ []) (omega arith)

  out_in : Contains names out
  out_in = Contains-get_or names place [] (omega arith)

  apart : (other : List ℕ) → Contains (drop (place + 1) names) other → out ≢ other
  apart other h e =
      let inside : h.0 < length (drop (place + 1) names) = h.1 in
      distinct place (place + 1 + h.0) other (omega arith) (omega (arith, length-drop (place + 1) names))
      (get_or_default names place other [] (omega arith) ∙ (e ∙ (sym h.2 ∙ get_or-drop (place + 1) names h.0 other)))

  kept_still : (other : List ℕ) → Contains (kept_names (suc n) (names ++ name ∷ [])) other → name ≢ other
      → Contains (drop (place + 1) names) other
  kept_still other h differs = not_new (drop (place + 1) names) name other (subst (λ ns. Contains ns other) kept_is h) differs

  was_kept : (other : List ℕ) → Contains (kept_names (suc n) names) other → out ≢ other
      → Contains (kept_names (suc n) (names ++ name ∷ [])) other
  was_kept other h differs =
      elim (Contains-append_cases (out ∷ []) (drop (place + 1) names) other (subst (λ ns. Contains ns other) kept_was h)) [
        | inl alone ↦ elim (Contains-push_cases [] out other alone) [
          | inl none_there ↦ let l = none_there.1 in absurd (omega arith)
          | inr e ↦ absurd (differs e)
        ]
        | inr later ↦ subst (λ ns. Contains ns other) (sym kept_is) (Contains-append_left (drop (place + 1) names) (name ∷ []) other later)
      ]

  removes : MakesWay (suc n) names name files (removed out files)
  removes = record {
    kept = λ other h differs.
        let still = kept_still other h differs in (
          at_other out other None (files other) (apart other still),
          subst (λ ns. Contains ns other) (sym kept_was) (Contains-append_right (out ∷ []) (drop (place + 1) names) other still),
        );
    gone = λ other has not. elim (same_or_not out other) [
      | inl e ↦ inl (subst (λ o. removed out files o ≡ None) e (at_same out None (files out)))
      | inr differs ↦ inr (at_other out other None (files other) differs, λ h. not (was_kept other h differs))
    ];
    rest = λ other not. at_other out other None (files other) (λ e. not (subst (Contains names) e out_in));
  }

way_made : (max : ℕ) (names : List (List ℕ)) (name : List ℕ) (files : Files) → AllPairs ◌≢◌ names
    → MakesWay max names name files (all_done (makes_way max names) files)
way_made zero names name files distinct = all_kept zero names name files refl refl
way_made (suc n) names name files distinct = elim (cases_lt n (length names)) [
  | inl less ↦
      subst (λ b. MakesWay (suc n) names name files (all_done (cond b (Remove (get_or names (length names - suc n) []) ∷ []) []) files))
      (sym (below n (length names) less)) (removes n names name files distinct less)
  | inr more ↦
      subst (λ b. MakesWay (suc n) names name files (all_done (cond b (Remove (get_or names (length names - suc n) []) ∷ []) []) files))
      (sym (not_below n (length names) more))
      (let more_none : length (names ++ name ∷ []) - suc n ≡ 0 = omega (arith, length-append names (name ∷ [])) in
      let none_out : length names - suc n ≡ 0 = omega arith in
      all_kept (suc n) names name files (ap (λ j. drop j (names ++ name ∷ [])) more_none) (ap (λ j. drop j names) none_out))
]
  where
    below : (a b : ℕ) → a < b → ltb a b ≡ true
    below a b less = grind (arith, nat_tests)

    not_below : (a b : ℕ) → b ≤ a → ltb a b ≡ false
    not_below a b more = grind (arith, nat_tests)

module _ (max : ℕ) (names : List (List ℕ)) (opening : Files) (entries : List Entry) (files : Files)
    (is : IsDaily max names opening entries files)
    (entry : Entry) (early : opens entries entry ≡ true) (first : ¬ Contains names entry.name) where
  abbrev given_way : Files
  given_way = all_done (makes_way max names) files

  abbrev begun_segment : Segment
  begun_segment = record { name = entry.name; lines = entry.line ∷ [] }

  way : MakesWay max names entry.name files given_way
  way = way_made max names entry.name files is.distinct

  not_last : is_last entry.name names ≡ true → ⊥
  not_last again =
      first (subst (λ b. Contains (cond b names (names ++ entry.name ∷ [])) entry.name) again (with_name_has names entry.name))

  opened_new : with_name names entry.name ≡ names ++ entry.name ∷ []
  opened_new = by (is_last entry.name names) not_last
    where
      by : (b : Bool) → (b ≡ true → ⊥) → cond b names (names ++ entry.name ∷ []) ≡ names ++ entry.name ∷ []
      by true never = absurd (never refl)
      by false never = refl

  no_lines_yet : lines_of entry.name is.segments ≡ []
  no_lines_yet = no_lines [] is.segments entry.name (λ h. first (subst (λ ns. Contains ns entry.name) is.opened h))

  new_name_has : appended entry.name entry.line given_way entry.name
      ≡ Some (bytes_of opening entry.name ++ concat (lines_of entry.name (is.segments ++ begun_segment ∷ [])))
  new_name_has =
      appended_here entry.name entry.line given_way
      ∙ (ap (λ o. Some (unwrap_or o [] ++ entry.line)) (way.rest entry.name first ∙ is.others entry.name first)
      ∙ ap (λ xs. Some (bytes_of opening entry.name ++ xs))
      (sym (ap concat (lines_here is.segments begun_segment ∙ ap (λ ls. ls ++ entry.line ∷ []) no_lines_yet) ∙ append-nil entry.line)))

  in_kept : Contains (kept_names max (names ++ entry.name ∷ [])) entry.name
  in_kept = last_kept max names entry.name

  opens_new : IsDaily max (names ++ entry.name ∷ []) opening (entries ++ entry ∷ []) (appended entry.name entry.line given_way)
  opens_new = record {
    segments = is.segments ++ begun_segment ∷ [];
    cut = begun entries is.segments entry is.cut early;
    opened = opened_more is.segments begun_segment ∙ (ap (λ ns. with_name ns entry.name) is.opened ∙ opened_new);
    distinct = all_pairs_push ◌≢◌ names entry.name is.distinct
        (λ k d less e. first (subst (Contains names) e (Contains-get_or names k d less)));
    kept = λ other h. elim (same_or_not entry.name other) [
      | inl e ↦ subst (λ n. appended entry.name entry.line given_way n
          ≡ Some (bytes_of opening n ++ concat (lines_of n (is.segments ++ begun_segment ∷ [])))) e new_name_has
      | inr differs ↦
          let old = way.kept other h differs in
          appended_there entry.name entry.line given_way other differs ∙ (old.0 ∙ (is.kept other old.1
          ∙ ap (λ ls. Some (bytes_of opening other ++ concat ls)) (sym (lines_there other is.segments begun_segment differs))))
    ];
    gone = λ other h not.
        let differs : entry.name ≢ other = λ e. not (subst (Contains (kept_names max (names ++ entry.name ∷ []))) e in_kept) in
        let has = not_new names entry.name other h differs in
        appended_there entry.name entry.line given_way other differs
        ∙ (elim (way.gone other has not) [ inl e ↦ e | inr w ↦ w.0 ∙ is.gone other has w.1 ]);
    others = λ other not.
        let old = λ (h : Contains names other). not (Contains-append_left names (entry.name ∷ []) other h) in
        appended_there entry.name entry.line given_way other
        (λ e. not (subst (Contains (names ++ entry.name ∷ [])) e (Contains-push names entry.name)))
        ∙ (way.rest other old ∙ is.others other old);
  }

pub days_go_on : DaysGoOn
days_go_on max names opening entries files entry directly is = by_opens (opens entries entry) refl
  where
    by_last_name : opens entries entry ≡ true → (again : Bool) → is_last entry.name names ≡ again
        → IsDaily max (cond again names (names ++ entry.name ∷ [])) opening (entries ++ entry ∷ [])
        (all_done (cond again [] (makes_way max names) ++ Append entry.name entry.line ∷ []) files)
    by_last_name early true e = opens_again max names opening entries files is entry early e
    by_last_name early false e =
        subst (λ f. IsDaily max (names ++ entry.name ∷ []) opening (entries ++ entry ∷ []) f)
        (sym (all_done-append (makes_way max names) (Append entry.name entry.line ∷ []) files))
        (opens_new max names opening entries files is entry early (λ h. let f = directly early h in absurd (cc)))

    by_opens : (early : Bool) → opens entries entry ≡ early
        → IsDaily max (cond early (with_name names entry.name) names) opening (entries ++ entry ∷ [])
        (all_done (cond early (opening_deeds max names entry) (Append (last_name names) entry.line ∷ [])) files)
    by_opens true e = by_last_name e (is_last entry.name names) refl
    by_opens false e = goes_on max names opening entries files is entry e
