-- The names of a daily_files's dates, and the calls that bring a line to its file.
use Rattle.std.proofs.Common.{◌≡◌, ◌≢◌, ℕ, zero, suc, ◌-◌, ◌≤◌, Bool, true, false, cond, eqb, ◌&&◌, None, Some, Result, Ok, Err}
use Rattle.std.proofs.Common.{List, [], ◌∷◌, ◌++◌, length, get_or, slice_get, drop, map, refl, sym, ap, ◌∙◌, subst, inl, inr, OnOk, arith}
use Rattle.std.specs.List.{All}
use Rattle.std.specs.Str.{bytes_eq}
use Rattle.std.proofs.lemmas.List.{drop-map, length-map, map_push, length_push, get_or_push}
use Rattle.std.proofs.lemmas.Option.{slice_get_read}
use Rattle.std.proofs.lemmas.Bool.Decides.{nat_tests}
use Rattle.std.proofs.lemmas.List.Elements.{All-drop, All-push, All-pop}
use Rattle.circular_buffer.specs.Buffer.{keep_last, last_item}
use Rattle.alog_sink.specs.Daily.{is_last, last_name}
use Rattle.alog_sink.specs.DailyDeeds.{makes_way}
use Rattle.alog_sink.specs.Deeds.{Remove, all_done}
use Rattle.alog_sink.specs.DailyFiles.{Days, makes_way_for, names_known, with_opened}
use Rattle.alog_sink.specs.Files.{Files, AreSame, removed}
use Rattle.alog_sink.specs.Names.{IsDate, dated}
use Rattle.alog_sink.specs.declared.names.Date.{Date}
use Rattle.alog_sink.proofs.DailyFiles.{last_pushed, test_same, test_other}
use Rattle.alog_sink.proofs.DailyKnown.{keep_all, length_kept, known_last, is_last_pushed, test_less}
use Rattle.alog_sink.proofs.NamesDated.{dated_names_differ, same_dates}
use Rattle.alog_sink.proofs.RotatedDoes.{same_then}
use Rattle.alog_sink.proofs.RotatedFiles.{all_alike}
use Rattle.alog_sink.proofs.RotatedRuns.{by_last}

kept_map : {X Y : Type 0} (f : X → Y) (n : ℕ) (xs : List X) → map f (keep_last n xs) ≡ keep_last n (map f xs)
kept_map f n xs = sym (ap (λ k. drop (k - n) (map f xs)) (length-map xs f) ∙ drop-map f (length xs - n) xs)

-- a name again, which is the last
pub again : (max : ℕ) (names : List (List ℕ)) (name : List ℕ) → length names ≤ names_known max → is_last name names ≡ true
    → names ≡ with_opened max names name
again max names name few e =
    sym (ap (λ b. keep_last (names_known max) (cond b names (names ++ name ∷ []))) e ∙ keep_all (names_known max) names few)

-- one date more
module _ (file : List ℕ) (max : ℕ) (dates : List Date) (date : Date) where
  abbrev more : List Date
  more = keep_last (names_known max) (dates ++ date ∷ [])

  more_names : map (dated file) more ≡ keep_last (names_known max) (map (dated file) dates ++ dated file date ∷ [])
  more_names =
      kept_map (dated file) (names_known max) (dates ++ date ∷ [])
      ∙ ap (keep_last (names_known max)) (map_push (dated file) dates date)

  pub more_opened : is_last (dated file date) (map (dated file) dates) ≡ false
      → map (dated file) more ≡ with_opened max (map (dated file) dates) (dated file date)
  more_opened e =
      more_names
      ∙ sym (ap (λ b. keep_last (names_known max) (cond b (map (dated file) dates) (map (dated file) dates ++ dated file date ∷ []))) e)

  pub more_last : last_name (map (dated file) more) ≡ dated file date
  more_last =
      ap last_name more_names
      ∙ (known_last max (map (dated file) dates ++ dated file date ∷ [])
      (keep_last (names_known max) (map (dated file) dates ++ dated file date ∷ [])) refl
      ∙ last_pushed (map (dated file) dates) (dated file date))

  pub more_few : length more ≤ names_known max
  more_few = omega (arith, length_kept (names_known max) (dates ++ date ∷ []))

  pub more_dates : All IsDate dates → IsDate date → All IsDate more
  more_dates all is =
      All-drop IsDate (length (dates ++ date ∷ []) - names_known max) (dates ++ date ∷ []) (All-push IsDate dates date all is)

-- whether a date is the last one is whether its name is the last name
last_pushed_item : (front : List Date) (last : Date) → last_item (front ++ last ∷ []) ≡ Some last
last_pushed_item front last =
    let n = length_push front last in
    slice_get_read (front ++ last ∷ []) (length (front ++ last ∷ [])) (length (front ++ last ∷ []) - 1) last refl (omega arith)
    (sym (get_or_push front last last (length (front ++ last ∷ []) - 1) (omega arith)))

pub none_is_last : (file : List ℕ) (dates : List Date) (name : List ℕ) → last_item dates ≡ None
    → is_last name (map (dated file) dates) ≡ false
none_is_last file dates name none = elim (by_last dates) [
  | inl e ↦ ap (λ ds. is_last name (map (dated file) ds)) e
  | inr w ↦ absurd (let e = sym (last_pushed_item w.0 w.1) ∙ (ap last_item (sym w.2) ∙ none) in cc)
]

abbrev pub same_parts : Date → Date → Bool
same_parts a b = eqb a.year b.year && (eqb a.month b.month && eqb a.day b.day)

all_same : (a b c d e f : ℕ) → (eqb a b && (eqb c d && eqb e f)) ≡ true → (a ≡ b) × (c ≡ d) × (e ≡ f)
all_same a b c d e f h = grind (arith, nat_tests)

same_as_itself : (a : Date) → same_parts a a ≡ true
same_as_itself a = grind (arith, nat_tests)

parts_are : (a b : Date) → same_parts a b ≡ true → a ≡ b
parts_are a b h = let p = all_same a.year b.year a.month b.month a.day b.day h in same_dates a b p.0 p.1 p.2

same_name : (file : List ℕ) (a b : Date) → IsDate a → IsDate b → same_parts a b ≡ bytes_eq (dated file a) (dated file b)
same_name file a b is_a is_b = by (same_parts a b) refl
  where
    by : (same : Bool) → same_parts a b ≡ same → same ≡ bytes_eq (dated file a) (dated file b)
    by true e = sym (ap (λ d. bytes_eq (dated file a) (dated file d)) (sym (parts_are a b e)) ∙ test_same (dated file a))
    by false e = sym (test_other (dated file a) (dated file b)
        (λ same. absurd (
        let is : same_parts a b ≡ true = subst (λ d. same_parts a d ≡ true) (dated_names_differ file a b is_a is_b same) (same_as_itself a) in cc)))

pub some_is_last : (file : List ℕ) (dates : List Date) (date last : Date) → All IsDate dates → IsDate date → last_item dates ≡ Some last
    → same_parts last date ≡ is_last (dated file date) (map (dated file) dates)
some_is_last file dates date last all is some = elim (by_last dates) [
  | inl e ↦ absurd (let none = sym some ∙ ap last_item e in cc)
  | inr w ↦
      let it : w.1 ≡ last = (let e = sym (last_pushed_item w.0 w.1) ∙ (ap last_item (sym w.2) ∙ some) in cc) in
      let is_last_date : IsDate last = subst IsDate it (All-pop IsDate dates w.0 (Some w.1) w.2 all).1 in
      same_name file last date is_last_date is
      ∙ (ap (λ d. bytes_eq (dated file d) (dated file date)) (sym it)
      ∙ (sym (is_last_pushed (dated file date) (map (dated file) w.0) (dated file w.1))
      ∙ ap (is_last (dated file date)) (sym (map_push (dated file) w.0 w.1) ∙ ap (map (dated file)) (sym w.2))))
]

-- the file that makes way
first_of : (file : List ℕ) (n : ℕ) (dates : List Date) (oldest : Date) → length dates ≡ suc n → slice_get dates 0 ≡ Some oldest
    → makes_way (suc n) (map (dated file) dates) ≡ Remove (dated file oldest) ∷ []
first_of file n [] oldest full first = absurd (cc)
first_of file n (x ∷ dates) oldest full first =
    let is : x ≡ oldest = cc in
    let names = map (dated file) (x ∷ dates) in
    let long : length names ≡ suc n = length-map (x ∷ dates) (dated file) ∙ full in
    let place : length names - suc n ≡ 0 = omega arith in
    ap (λ b. cond b (Remove (get_or names (length names - suc n) []) ∷ []) []) (test_less n (length names) (omega arith))
    ∙ (ap (λ k. Remove (get_or names k []) ∷ []) place ∙ ap (λ d. Remove (dated file d) ∷ []) is)

pub way_done : {A E : Type 0} (file : List ℕ) {max : ℕ} (dates : List Date) {oldest : Date} {name : List ℕ} → max ≢ 0
    → length dates ≡ names_known max → slice_get dates 0 ≡ Some oldest → name ≡ dated file oldest → (old new : Files) (r : Result A E)
    → OnOk r (AreSame (removed name old) new) → OnOk r (AreSame (all_done (makes_way max (map (dated file) dates)) old) new)
way_done file {max = zero} dates some full first is old new r done = absurd (some refl)
way_done file {max = suc n} dates {oldest} {name} some full first is old new r done =
    subst (λ deeds. OnOk r (AreSame (all_done deeds old) new))
    (sym (first_of file n dates oldest full first ∙ ap (λ m. Remove m ∷ []) (sym is))) done

pub test_is : (a b : ℕ) → eqb a b ≡ true → a ≡ b
test_is a b h = grind (arith, nat_tests)

-- what makes way for a name that is the last one, and for another
pub way_of_last : (d : Days) (name : List ℕ) → is_last name d.names ≡ true → makes_way_for d name ≡ []
way_of_last d name e = ap (λ b. cond b [] (makes_way d.limits.max_files d.names)) e

pub way_of_other : (d : Days) (name : List ℕ) → is_last name d.names ≡ false → makes_way_for d name ≡ makes_way d.limits.max_files d.names
way_of_other d name e = ap (λ b. cond b [] (makes_way d.limits.max_files d.names)) e

-- what makes way behind a call that left the files as they were
pub way_behind : {A E : Type 0} (r : Result A E) (d : Days) (name : List ℕ) → is_last name d.names ≡ false → (old mid new : Files)
    → AreSame old mid → OnOk r (AreSame (all_done (makes_way d.limits.max_files d.names) mid) new)
    → OnOk r (AreSame (all_done (makes_way_for d name) old) new)
way_behind (Ok x) d name e old mid new same done =
    subst (λ deeds. AreSame (all_done deeds old) new) (sym (way_of_other d name e))
    (same_then (all_done (makes_way d.limits.max_files d.names) old) (all_done (makes_way d.limits.max_files d.names) mid) new
    (all_alike (makes_way d.limits.max_files d.names) old mid same) done)
way_behind (Err x) d name e old mid new same done = tt
