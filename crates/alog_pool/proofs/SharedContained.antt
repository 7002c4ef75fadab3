-- What stands in a list, in a list that was made of it, and in lists together.
use Rattle.std.proofs.Common.{◌≡◌, ◌⊎◌, ℕ, zero, suc, ◌+◌, ◌≤◌, List, [], ◌∷◌, ◌++◌, map, Contains, inl, inr, refl, sym, ap, subst, arith}
use Rattle.std.specs.List.{AllByRecursion, sum_by}
use Rattle.std.proofs.lemmas.Bool.Decides.{leb_tells}
use Rattle.std.proofs.lemmas.List.Elements.{Contains-append_left, Contains-append_right, Contains-append_cases}
use Rattle.std.proofs.lemmas.List.Sums.{sum_by-cons}
use Rattle.alog_pool.specs.Workers.{together}

module _ {A : Type 0} where
  pub at_cases : (x y : A) (xs : List A) → Contains (y ∷ xs) x → (y ≡ x) ⊎ Contains xs x
  at_cases x y xs (zero, l, e) = inl e
  at_cases x y xs (suc k, l, e) = inr (k, omega (arith, l), e)

  pub first_at : (x : A) (xs : List A) → Contains (x ∷ xs) x
  first_at x xs = (0, omega arith, refl)

  pub later_at : (x y : A) (xs : List A) → Contains xs x → Contains (y ∷ xs) x
  later_at x y xs c = Contains-append_right (y ∷ []) xs x c

  pub all_at : (P : A → Type 0) (xs : List A) (x : A) → AllByRecursion P xs → Contains xs x → P x
  all_at P [] x all c = absurd (omega (arith, c.1))
  all_at P (y ∷ xs) x all c =
      elim (at_cases x y xs c) [ inl same ↦ subst P same all.0 | inr later ↦ all_at P xs x all.1 later ]

  pub sum_at : (f : A → ℕ) (xs : List A) (x : A) → Contains xs x → f x ≤ sum_by f xs
  sum_at f [] x c = absurd (omega (arith, c.1))
  sum_at f (y ∷ xs) x c =
      let whole : sum_by f (y ∷ xs) ≡ f y + sum_by f xs = sum_by-cons f y xs in
      elim (at_cases x y xs c) [
        | inl same ↦ let one : f y ≡ f x = ap f same in omega (arith, whole, one)
        | inr later ↦ omega (arith, whole, sum_at f xs x later)
      ]

  pub some_of_sum : (f : A → ℕ) (xs : List A) → 1 ≤ sum_by f xs → (x : A) × Contains xs x × (1 ≤ f x)
  some_of_sum f [] some = absurd (omega (arith, some))
  some_of_sum f (y ∷ xs) some =
      let whole : sum_by f (y ∷ xs) ≡ f y + sum_by f xs = sum_by-cons f y xs in
      elim (leb_tells 1 (f y)) [
        | inl is ↦ (y, first_at y xs, is.1)
        | inr less ↦
            let rest = some_of_sum f xs (omega (arith, whole, some, less.1)) in
            (rest.0, later_at rest.0 y xs rest.1, rest.2)
      ]

module _ {A B : Type 0} where
  pub at_map : (f : A → B) (xs : List A) (x : A) → Contains xs x → Contains (map f xs) (f x)
  at_map f [] x c = absurd (omega (arith, c.1))
  at_map f (y ∷ xs) x c =
      elim (at_cases x y xs c) [
        | inl same ↦ subst (λ (z : A). Contains (map f (y ∷ xs)) (f z)) same (first_at (f y) (map f xs))
        | inr later ↦ later_at (f x) (f y) (map f xs) (at_map f xs x later)
      ]

  pub of_map : (f : A → B) (xs : List A) (z : B) → Contains (map f xs) z → (x : A) × Contains xs x × (f x ≡ z)
  of_map f [] z c = absurd (omega (arith, c.1))
  of_map f (y ∷ xs) z c =
      elim (at_cases z (f y) (map f xs) c) [
        | inl same ↦ (y, first_at y xs, same)
        | inr later ↦ let is = of_map f xs z later in (is.0, later_at is.0 y xs is.1, is.2)
      ]

  pub at_together : (f : A → List B) (xs : List A) (x : A) (z : B) → Contains xs x → Contains (f x) z → Contains (together (map f xs)) z
  at_together f [] x z c d = absurd (omega (arith, c.1))
  at_together f (y ∷ xs) x z c d =
      elim (at_cases x y xs c) [
        | inl same ↦
            Contains-append_left (f y) (together (map f xs)) z (subst (λ (v : A). Contains (f v) z) (sym same) d)
        | inr later ↦ Contains-append_right (f y) (together (map f xs)) z (at_together f xs x z later d)
      ]

  pub of_together : (f : A → List B) (xs : List A) (z : B) → Contains (together (map f xs)) z → (x : A) × Contains xs x × Contains (f x) z
  of_together f [] z c = absurd (omega (arith, c.1))
  of_together f (y ∷ xs) z c =
      elim (Contains-append_cases (f y) (together (map f xs)) z c) [
        | inl now ↦ (y, first_at y xs, now)
        | inr later ↦ let is = of_together f xs z later in (is.0, later_at is.0 y xs is.1, is.2)
      ]
