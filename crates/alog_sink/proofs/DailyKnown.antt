-- What is known of all opened names by the last of them.
use Rattle.std.proofs.Common.{◌≡◌, ℕ, zero, suc, ◌+◌, ◌-◌, ◌<◌, ◌≤◌, Bool, true, false, cond, ltb}
use Rattle.std.proofs.Common.{List, [], ◌∷◌, ◌++◌, length, get_or, drop, refl, sym, ap, ◌∙◌, inl, inr}
use Rattle.std.proofs.Common.{append-nil, length-append, arith}
use Rattle.std.proofs.Math.Seq.{drop-nil}
use Rattle.std.specs.Str.{bytes_eq}
use Rattle.std.proofs.lemmas.Bool.{cases_lt}
use Rattle.std.proofs.lemmas.Bool.Decides.{nat_tests}
use Rattle.std.proofs.lemmas.List.{drop-drop, get_or-drop, drop-append-le, length-drop}
use Rattle.circular_buffer.specs.Buffer.{keep_last}
use Rattle.alog_sink.specs.Daily.{last_name, is_last, with_name}
use Rattle.alog_sink.specs.DailyDeeds.{makes_way}
use Rattle.alog_sink.specs.Deeds.{Remove}
use Rattle.alog_sink.specs.DailyFiles.{names_known, with_opened}
use Rattle.alog_sink.proofs.DailyFiles.{last_pushed}
use Rattle.alog_sink.proofs.RotatedRuns.{by_last}

pub test_less : (a b : ℕ) → a < b → ltb a b ≡ true
test_less a b less = grind (arith, nat_tests)

-- the last n of a list
pub keep_all : {X : Type 0} (n : ℕ) (xs : List X) → length xs ≤ n → keep_last n xs ≡ xs
keep_all n xs less = ap (λ k. drop k xs) (none (length xs) n less)
  where
    none : (k n : ℕ) → k ≤ n → k - n ≡ 0
    none k n h = omega arith

pub length_kept : {X : Type 0} (n : ℕ) (xs : List X) → length (keep_last n xs) ≡ length xs - (length xs - n)
length_kept n xs = length-drop (length xs - n) xs

-- of the last n and more the last n are those of all and more
pub kept_more : {X : Type 0} (n : ℕ) (xs ys : List X) → keep_last n (keep_last n xs ++ ys) ≡ keep_last n (xs ++ ys)
kept_more n xs ys =
    let k = length xs - n in
    let front : drop k (xs ++ ys) ≡ drop k xs ++ ys = drop-append-le k xs ys (omega arith) in
    let j = length (drop k xs ++ ys) - n in
    ap (drop j) (sym front)
    ∙ (drop-drop j k (xs ++ ys) ∙ ap (λ m. drop m (xs ++ ys))
    (omega (arith, length-append (drop k xs) ys, length-drop k xs, length-append xs ys)))

pub kept_twice : {X : Type 0} (n : ℕ) (xs : List X) → keep_last n (keep_last n xs) ≡ keep_last n xs
kept_twice n xs =
    sym (ap (keep_last n) (append-nil (keep_last n xs))) ∙ (kept_more n xs [] ∙ ap (keep_last n) (append-nil xs))

-- the last name, of some names and of the last of them
pub is_last_pushed : (name : List ℕ) (front : List (List ℕ)) (last : List ℕ) → is_last name (front ++ last ∷ []) ≡ bytes_eq last name
is_last_pushed name [] last = refl
is_last_pushed name (x ∷ front) last = ap (λ n. bytes_eq n name) (last_pushed (x ∷ front) last)

kept_pushed : (n : ℕ) (front : List (List ℕ)) (last : List ℕ) → keep_last (suc n) (front ++ last ∷ [])
    ≡ drop (length (front ++ last ∷ []) - suc n) front ++ last ∷ []
kept_pushed n front last =
    drop-append-le (length (front ++ last ∷ []) - suc n) front (last ∷ []) (omega (arith, length-append front (last ∷ [])))

kept_of_none : (n : ℕ) (names : List (List ℕ)) → names ≡ [] → keep_last n names ≡ []
kept_of_none n names none = ap (keep_last n) none ∙ drop-nil (0 - n)

module _ (n : ℕ) (names : List (List ℕ)) where
  is_last_kept : (name : List ℕ) → is_last name (keep_last (suc n) names) ≡ is_last name names
  is_last_kept name = elim (by_last names) [
    | inl none ↦ ap (is_last name) (kept_of_none (suc n) names none ∙ sym none)
    | inr w ↦ ap (λ ns. is_last name (keep_last (suc n) ns)) w.2
        ∙ (ap (is_last name) (kept_pushed n w.0 w.1)
        ∙ (is_last_pushed name (drop (length (w.0 ++ w.1 ∷ []) - suc n) w.0) w.1
        ∙ (sym (is_last_pushed name w.0 w.1) ∙ ap (is_last name) (sym w.2))))
  ]

  last_name_kept : last_name (keep_last (suc n) names) ≡ last_name names
  last_name_kept = elim (by_last names) [
    | inl none ↦ ap last_name (kept_of_none (suc n) names none ∙ sym none)
    | inr w ↦ ap (λ ns. last_name (keep_last (suc n) ns)) w.2
        ∙ (ap last_name (kept_pushed n w.0 w.1)
        ∙ (last_pushed (drop (length (w.0 ++ w.1 ∷ []) - suc n) w.0) w.1
        ∙ (sym (last_pushed w.0 w.1) ∙ ap last_name (sym w.2))))
  ]

  makes_way_kept : makes_way (suc n) (keep_last (suc n) names) ≡ makes_way (suc n) names
  makes_way_kept = elim (cases_lt n (length names)) [
    | inl more ↦
        let long : length (keep_last (suc n) names) ≡ suc n = length_kept (suc n) names ∙ omega arith in
        let place : length (keep_last (suc n) names) - suc n ≡ 0 = omega arith in
        let here : ltb n (length (keep_last (suc n) names)) ≡ true = ap (ltb n) long ∙ test_less n (suc n) (omega arith) in
        let there : ltb n (length names) ≡ true = test_less n (length names) more in
        ap (λ b. cond b (Remove (get_or (keep_last (suc n) names) (length (keep_last (suc n) names) - suc n) []) ∷ []) []) here
        ∙ (ap (λ x. Remove x ∷ []) (ap (λ k. get_or (keep_last (suc n) names) k []) place
        ∙ (get_or-drop (length names - suc n) names 0 []
        ∙ ap (λ k. get_or names k []) (let z : length names - suc n + 0 ≡ length names - suc n = omega arith in z)))
        ∙ sym (ap (λ b. cond b (Remove (get_or names (length names - suc n) []) ∷ []) []) there))
    | inr less ↦ ap (makes_way (suc n)) (keep_all (suc n) names (omega arith))
  ]

-- The same by the number of files that are kept.
module _ (max : ℕ) (names known : List (List ℕ)) (are : known ≡ keep_last (names_known max) names) where
  pub known_is_last : (name : List ℕ) → is_last name known ≡ is_last name names
  known_is_last name = ap (is_last name) are ∙ by max
    where
      by : (max : ℕ) → is_last name (keep_last (names_known max) names) ≡ is_last name names
      by zero = is_last_kept 0 names name
      by (suc n) = is_last_kept n names name

  pub known_last : last_name known ≡ last_name names
  known_last = ap last_name are ∙ by max
    where
      by : (max : ℕ) → last_name (keep_last (names_known max) names) ≡ last_name names
      by zero = last_name_kept 0 names
      by (suc n) = last_name_kept n names

  pub known_way : makes_way max known ≡ makes_way max names
  known_way = ap (makes_way max) are ∙ by max
    where
      by : (max : ℕ) → makes_way max (keep_last (names_known max) names) ≡ makes_way max names
      by zero = refl
      by (suc n) = makes_way_kept n names

  pub known_more : (name : List ℕ) → with_opened max known name ≡ keep_last (names_known max) (with_name names name)
  known_more name = by (is_last name names) refl
    where
      by : (b : Bool) → is_last name names ≡ b → keep_last (names_known max) (cond (is_last name known) known (known ++ name ∷ []))
          ≡ keep_last (names_known max) (cond b names (names ++ name ∷ []))
      by true e =
          ap (λ b. keep_last (names_known max) (cond b known (known ++ name ∷ []))) (known_is_last name ∙ e)
          ∙ (ap (keep_last (names_known max)) are ∙ kept_twice (names_known max) names)
      by false e =
          ap (λ b. keep_last (names_known max) (cond b known (known ++ name ∷ []))) (known_is_last name ∙ e)
          ∙ (ap (λ ns. keep_last (names_known max) (ns ++ name ∷ [])) are ∙ kept_more (names_known max) names (name ∷ []))
