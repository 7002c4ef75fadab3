-- Lists read by `get_elem?`, prefixes, and sums over the views.
use Rattle.std.proofs.Common.{◌≡◌, ◌≢◌, ℕ, zero, suc, ◌+◌, ◌<◌, ◌≤◌, ◌⊎◌, List, [], ◌∷◌, ◌++◌, length, get_or, set, sym, ap, ◌∙◌}
use Rattle.std.proofs.Common.{refl, inl, inr, append_assoc, arith, Option, Some, None}
use Rattle.std.specs.List.{AllByRecursion, sum_by}
use Rattle.std.proofs.lemmas.List.{append-nil}
use Rattle.std.proofs.lemmas.List.Sums.{sum_by-set, sum_by-append}
use mathlib.Core.Option.{some, some-injective, some-ne-none}
use mathlib.Core.List.{IsPrefix}
use lib.ListN.{get_elem?}
use Rattle.atomic_table.proofs.Lists.{set_else}

-- a look-up finds nothing, or something
pub not_both : {A X : Type 0} {o : Option A} {a : A} → o ≡ None → o ≡ Some a → X
not_both {a = a} nothing something = let wrong : None ≡ Some a = sym nothing ∙ something in absurd (cc)

module _ {A : Type 0} where
  pub inside : (l : List A) (i : ℕ) (a : A) → get_elem? l i ≡ some a → i < length l
  inside [] i a e = absurd (some-ne-none a (sym e))
  inside (x ∷ xs) zero a e = omega arith
  inside (x ∷ xs) (suc i) a e = let tail : i < length xs = inside xs i a e in omega arith

  pub found : (l : List A) (i : ℕ) (a d : A) → get_elem? l i ≡ some a → get_or l i d ≡ a
  found [] i a d e = absurd (some-ne-none a (sym e))
  found (x ∷ xs) zero a d e = some-injective x a e
  found (x ∷ xs) (suc i) a d e = found xs i a d e

  pub one_value : (l : List A) (i : ℕ) (a b : A) → get_elem? l i ≡ some a → get_elem? l i ≡ some b → a ≡ b
  one_value l i a b p q = some-injective a b (sym p ∙ q)

  pub prefix_same : (h : List A) → IsPrefix h h
  prefix_same h = ([], append-nil h)

  pub prefix_longer : (s h more : List A) → IsPrefix s h → IsPrefix s (h ++ more)
  prefix_longer s h more p = (p.0 ++ more, sym (append_assoc s p.0 more) ∙ ap (λ (l : List A). l ++ more) p.1)

  pub prefix_through : (r s h : List A) → IsPrefix r s → IsPrefix s h → IsPrefix r h
  prefix_through r s h p q = (p.0 ++ q.0, sym (append_assoc r p.0 q.0) ∙ ap (λ (l : List A). l ++ q.0) p.1 ∙ q.1)

  pub each_of : (P Q : A → Type 0) (l : List A) → ((x : A) → P x → Q x) → AllByRecursion P l → AllByRecursion Q l
  each_of P Q [] f all = tt
  each_of P Q (x ∷ xs) f all = (f x all.0, each_of P Q xs f all.1)

  pub each_of_two : (P R Q : A → Type 0) (l : List A) → ((x : A) → P x → R x → Q x) → AllByRecursion P l
      → AllByRecursion R l → AllByRecursion Q l
  each_of_two P R Q [] f all more = tt
  each_of_two P R Q (x ∷ xs) f all more = (f x all.0 more.0, each_of_two P R Q xs f all.1 more.1)

  pub each_append : (P : A → Type 0) (l m : List A) → AllByRecursion P l → AllByRecursion P m → AllByRecursion P (l ++ m)
  each_append P [] m all more = more
  each_append P (x ∷ xs) m all more = (all.0, each_append P xs m all.1 more)

  -- a sum where one term changes, and where two terms are parts of it
  pub sum_changed : (f : A → ℕ) (l : List A) (i : ℕ) (a b : A) → get_elem? l i ≡ some a
      → sum_by f (set l i b) + f a ≡ sum_by f l + f b
  sum_changed f l i a b e =
      let at : get_or l i a ≡ a = found l i a a e
      in ap (λ (x : A). sum_by f (set l i b) + f x) (sym at) ∙ sum_by-set f l i b a (inside l i a e)

  pub sum_of_two : (f : A → ℕ) (l : List A) {i j : ℕ} (a b : A) {nothing : A} → f nothing ≡ 0 → get_elem? l i ≡ some a
      → get_elem? l j ≡ some b → j ≢ i → f a + f b ≤ sum_by f l
  sum_of_two f l {i} {j} a b {nothing} none e g apart =
      let first : sum_by f (set l i nothing) + f a ≡ sum_by f l + f nothing = sum_changed f l i a nothing e
      in let second : sum_by f (set (set l i nothing) j nothing) + f b ≡ sum_by f (set l i nothing) + f nothing =
      sum_changed f (set l i nothing) j b nothing (set_else l i j nothing apart ∙ g)
      in omega arith

  pub sum_with_last : (f : A → ℕ) (l : List A) (a : A) → sum_by f (l ++ a ∷ []) ≡ sum_by f l + f a
  sum_with_last f l a = let e : sum_by f (a ∷ []) ≡ f a = omega arith in sum_by-append f l (a ∷ [])
      ∙ ap (λ (n : ℕ). sum_by f l + n) e

-- a list has an i-th item, or ends before it
pub at_or_past : {A : Type 0} (xs : List A) (i : ℕ) → ((x : A) × (get_elem? xs i ≡ some x)) ⊎ (length xs ≤ i)
at_or_past [] i = inr (omega arith)
at_or_past (x ∷ xs) zero = inl (x, refl)
at_or_past (x ∷ xs) (suc i) =
    elim (at_or_past xs i) [
      | inl at ↦ inl at
      | inr past ↦ inr (omega arith)
    ]
