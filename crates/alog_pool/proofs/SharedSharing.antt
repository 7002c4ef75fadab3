-- Loops that go through lists: some places are done, the others are as they were.
use Rattle.std.proofs.Common.{◌≡◌, ◌<◌, ℕ, zero, suc, List, [], ◌∷◌, ◌++◌, ◌≤◌, length, map, slice_get, slice_set, Some, refl, sym, subst, arith}
use Rattle.std.specs.Prelude.{slice_index_or}
use Rattle.std.specs.List.{AllByRecursion}
use Rattle.alog_pool.specs.Places.{Each2, Each3}

module _ {A B : Type 0} (R : A → B → Type 0) where
  -- the first so many are done
  abbrev pub Matching : ℕ → List A → List B → Type 0
  Matching zero xs ys = ys ≡ []
  Matching (suc i) (x ∷ xs) (y ∷ ys) = R x y × Matching i xs ys
  Matching (suc i) [] ys = ⊥
  Matching (suc i) (x ∷ xs) [] = ⊥

  pub match_one : (i : ℕ) (xs : List A) (ys : List B) (x : A) (y : B) → slice_get xs i ≡ Some x → R x y → Matching i xs ys
      → Matching (suc i) xs (ys ++ y ∷ [])
  match_one i [] ys x y at r m = absurd (cc at)
  match_one zero (z ∷ xs) ys x y at r m =
      let same : z ≡ x = cc in
      subst (λ (l : List B). Matching 1 (z ∷ xs) (l ++ y ∷ [])) (sym m) (subst (λ w. R w y) (sym same) r, refl)
  match_one (suc i) (z ∷ xs) [] x y at r m = absurd m
  match_one (suc i) (z ∷ xs) (w ∷ ys) x y at r m = (m.0, match_one i xs ys x y at r m.1)

  pub match_all : (xs : List A) (ys : List B) → Matching (length xs) xs ys → Each2 R xs ys
  match_all [] ys m = subst (λ (l : List B). Each2 R [] l) (sym m) tt
  match_all (x ∷ xs) [] m = absurd m
  match_all (x ∷ xs) (y ∷ ys) m = (m.0, match_all xs ys m.1)

  pub matched_within : (i : ℕ) (xs : List A) (ys : List B) → Matching i xs ys → i ≤ length xs
  matched_within zero xs ys m = omega arith
  matched_within (suc i) [] ys m = absurd m
  matched_within (suc i) (x ∷ xs) [] m = absurd m
  matched_within (suc i) (x ∷ xs) (y ∷ ys) m = let rest = matched_within i xs ys m.1 in omega (arith, rest)

  pub matched_length : (i : ℕ) (xs : List A) (ys : List B) → Matching i xs ys → length ys ≡ i
  matched_length zero xs ys m = subst (λ (l : List B). length l ≡ 0) (sym m) refl
  matched_length (suc i) [] ys m = absurd m
  matched_length (suc i) (x ∷ xs) [] m = absurd m
  matched_length (suc i) (x ∷ xs) (y ∷ ys) m = λ k. suc (matched_length i xs ys m.1 k)

module _ {A C : Type 0} (R : A → A → C → Type 0) where
  -- the first so many gave something away, and the others are as they were
  abbrev pub Sharing : ℕ → List A → List A → List C → Type 0
  Sharing zero old new given = (new ≡ old) × (given ≡ [])
  Sharing (suc i) (x ∷ xs) (y ∷ ys) (z ∷ zs) = R x y z × Sharing i xs ys zs
  Sharing (suc i) [] new given = ⊥
  Sharing (suc i) (x ∷ xs) [] given = ⊥
  Sharing (suc i) (x ∷ xs) (y ∷ ys) [] = ⊥

  pub share_one : (i : ℕ) (old new : List A) (given : List C) (d : A) {b : A} {c : C} → i < length new → R (slice_index_or new i d) b c
      → Sharing i old new given → Sharing (suc i) old (slice_set new i b) (given ++ c ∷ [])
  share_one i old [] given d low r m = absurd (omega (arith, low))
  share_one zero old (y ∷ ys) given d {b} {c} low r m =
      subst (λ (o : List A). Sharing 1 o (b ∷ ys) (given ++ c ∷ [])) m.0
      (subst (λ (l : List C). Sharing 1 (y ∷ ys) (b ∷ ys) (l ++ c ∷ [])) (sym m.1) (r, (refl, refl)))
  share_one (suc i) [] (y ∷ ys) given d low r m = absurd m
  share_one (suc i) (x ∷ xs) (y ∷ ys) [] d low r m = absurd m
  share_one (suc i) (x ∷ xs) (y ∷ ys) (z ∷ zs) d {b} {c} low r m = (m.0, share_one i xs ys zs d (omega (arith, low)) r m.1)

  pub share_all : (old new : List A) (given : List C) → Sharing (length old) old new given → Each3 R old new given
  share_all [] new given m =
      subst (λ (l : List A). Each3 R [] l given) (sym m.0) (subst (λ (l : List C). Each3 R [] [] l) (sym m.1) tt)
  share_all (x ∷ xs) [] given m = absurd m
  share_all (x ∷ xs) (y ∷ ys) [] m = absurd m
  share_all (x ∷ xs) (y ∷ ys) (z ∷ zs) m = (m.0, share_all xs ys zs m.1)

  pub shared_lengths : (i : ℕ) (old new : List A) (given : List C) → Sharing i old new given
      → (length new ≡ length old) × (length given ≡ i)
  shared_lengths zero old new given m =
      ((λ k. length (m.0 k)), (λ k. length (m.1 k)))
  shared_lengths (suc i) [] new given m = absurd m
  shared_lengths (suc i) (x ∷ xs) [] given m = absurd m
  shared_lengths (suc i) (x ∷ xs) (y ∷ ys) [] m = absurd m
  shared_lengths (suc i) (x ∷ xs) (y ∷ ys) (z ∷ zs) m =
      let r = shared_lengths i xs ys zs m.1 in ((λ k. suc (r.0 k)), (λ k. suc (r.1 k)))

  pub shared_within : (i : ℕ) (old new : List A) (given : List C) → Sharing i old new given → i ≤ length old
  shared_within zero old new given m = omega arith
  shared_within (suc i) [] new given m = absurd m
  shared_within (suc i) (x ∷ xs) [] given m = absurd m
  shared_within (suc i) (x ∷ xs) (y ∷ ys) [] m = absurd m
  shared_within (suc i) (x ∷ xs) (y ∷ ys) (z ∷ zs) m = let rest = shared_within i xs ys zs m.1 in omega (arith, rest)

  -- what holds of each that is still as it was
  pub shared_rest : (P : A → Type 0) (i : ℕ) (old new : List A) (given : List C) (d : A) → i < length new → AllByRecursion P old
      → Sharing i old new given → P (slice_index_or new i d)
  shared_rest P i old [] given d low all m = absurd (omega (arith, low))
  shared_rest P zero [] (y ∷ ys) given d low all m = absurd (cc m.0)
  shared_rest P zero (x ∷ xs) (y ∷ ys) given d low all m = let same : y ≡ x = cc m.0 in subst P (sym same) all.0
  shared_rest P (suc i) [] (y ∷ ys) given d low all m = absurd m
  shared_rest P (suc i) (x ∷ xs) (y ∷ ys) [] d low all m = absurd m
  shared_rest P (suc i) (x ∷ xs) (y ∷ ys) (z ∷ zs) d low all m =
      shared_rest P i xs ys zs d (omega (arith, low)) all.1 m.1

module _ {A B : Type 0} (R : A → B → Type 0) where
  pub each2_more : (xs : List A) (ys : List B) (x : A) (y : B) → Each2 R xs ys → R x y → Each2 R (xs ++ x ∷ []) (ys ++ y ∷ [])
  each2_more [] [] x y each r = (r, tt)
  each2_more [] (w ∷ ys) x y each r = absurd each
  each2_more (z ∷ xs) [] x y each r = absurd each
  each2_more (z ∷ xs) (w ∷ ys) x y each r = (each.0, each2_more xs ys x y each.1 r)

  pub each2_length : (xs : List A) (ys : List B) → Each2 R xs ys → length ys ≡ length xs
  each2_length [] [] each = refl
  each2_length [] (w ∷ ys) each = absurd each
  each2_length (z ∷ xs) [] each = absurd each
  each2_length (z ∷ xs) (w ∷ ys) each = λ k. suc (each2_length xs ys each.1 k)

  -- what holds of the next item and of what is still as it was
  pub matched_next : {C : Type 0} (Q : A → A → C → Type 0) (ys : List B) {x : B} (zs : List B) (old new : List A) (given : List C) (d : A)
      → Each2 R old (ys ++ x ∷ zs) → Sharing Q (length ys) old new given → R (slice_index_or new (length ys) d) x
  matched_next Q [] zs [] new given d each m = absurd each
  matched_next Q [] zs (a ∷ old) [] given d each m = absurd (cc m.0)
  matched_next Q [] {x} zs (a ∷ old) (b ∷ new) given d each m =
      let same : b ≡ a = cc m.0 in subst (λ c. R c x) (sym same) each.0
  matched_next Q (y ∷ ys) zs [] new given d each m = absurd each
  matched_next Q (y ∷ ys) zs (a ∷ old) [] given d each m = absurd m
  matched_next Q (y ∷ ys) zs (a ∷ old) (b ∷ new) [] d each m = absurd m
  matched_next Q (y ∷ ys) {x} zs (a ∷ old) (b ∷ new) (c ∷ given) d each m = matched_next Q ys {x = x} zs old new given d each.1 m.1

  pub next_low : {C : Type 0} (Q : A → A → C → Type 0) (ys : List B) (x : B) (zs : List B) (old new : List A) (given : List C)
      → Each2 R old (ys ++ x ∷ zs) → Sharing Q (length ys) old new given → length ys < length new
  next_low Q [] x zs [] new given each m = absurd each
  next_low Q [] x zs (a ∷ old) [] given each m = absurd (cc m.0)
  next_low Q [] x zs (a ∷ old) (b ∷ new) given each m = omega arith
  next_low Q (y ∷ ys) x zs [] new given each m = absurd each
  next_low Q (y ∷ ys) x zs (a ∷ old) [] given each m = absurd m
  next_low Q (y ∷ ys) x zs (a ∷ old) (b ∷ new) [] each m = absurd m
  next_low Q (y ∷ ys) x zs (a ∷ old) (b ∷ new) (c ∷ given) each m =
      let rest = next_low Q ys x zs old new given each.1 m.1 in omega (arith, rest)

-- what holds of all holds of the next
pub all_next : {A : Type 0} (P : A → Type 0) (xs : List A) (x : A) (zs : List A) → AllByRecursion P (xs ++ x ∷ zs) → P x
all_next P [] x zs all = all.0
all_next P (y ∷ xs) x zs all = all_next P xs x zs all.1

pub all_more : {A : Type 0} (P : A → Type 0) (xs : List A) (x : A) → AllByRecursion P xs → P x → AllByRecursion P (xs ++ x ∷ [])
all_more P [] x all p = (p, tt)
all_more P (y ∷ xs) x all p = (all.0, all_more P xs x all.1 p)

pub all_map_more : {A B : Type 0} (f : A → B) (P : B → Type 0) (xs : List A) (x : A) → AllByRecursion P (map f xs) → P (f x)
    → AllByRecursion P (map f (xs ++ x ∷ []))
all_map_more f P [] x all p = (p, tt)
all_map_more f P (y ∷ xs) x all p = (all.0, all_map_more f P xs x all.1 p)

pub all_map_next : {A B : Type 0} (f : A → B) (P : B → Type 0) (xs : List A) (x : A) (zs : List A)
    → AllByRecursion P (map f (xs ++ x ∷ zs)) → P (f x)
all_map_next f P [] x zs all = all.0
all_map_next f P (y ∷ xs) x zs all = all_map_next f P xs x zs all.1

pub each3_more : {A B C : Type 0} (R : A → B → C → Type 0) (xs : List A) (ys : List B) (zs : List C) {x : A} {y : B} {z : C}
    → Each3 R xs ys zs → R x y z → Each3 R (xs ++ x ∷ []) (ys ++ y ∷ []) (zs ++ z ∷ [])
each3_more R [] [] [] each r = (r, tt)
each3_more R [] [] (c ∷ zs) each r = absurd each
each3_more R [] (b ∷ ys) zs each r = absurd each
each3_more R (a ∷ xs) [] zs each r = absurd each
each3_more R (a ∷ xs) (b ∷ ys) [] each r = absurd each
each3_more R (a ∷ xs) (b ∷ ys) (c ∷ zs) {x} {y} {z} each r = (each.0, each3_more R xs ys zs each.1 r)
