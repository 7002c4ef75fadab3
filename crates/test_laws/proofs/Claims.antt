-- Items with rising tickets that are those of one producer's claims are these claims, in their order.
use Rattle.std.proofs.Common.{◌≡◌, ◌≢◌, ◌⊎◌, ℕ, zero, suc, ◌<◌, List, [], ◌∷◌, Contains, refl, sym, ap, subst, ◌∙◌, inl, inr, arith}
use Rattle.std.specs.List.{AllByRecursion}
use Rattle.std.proofs.lemmas.List.Elements.{Contains-append_right}
use Rattle.alog_core.specs.Accounts.{claims, takes}
use Rattle.alog_msg.specs.declared.item.Item.{Item}
use Rattle.alog_msg.specs.declared.item.Item.TheVariants.{Stop}
use Rattle.alog_pool.specs.Posted.{ArePosted, IsOverrun, tickets_of}
use Rattle.alog_pool.specs.Producer.{ProducerView}
use Rattle.alog_pool.specs.Report.{IsRising}

-- a ticket and the item under it
abbrev pub Given : Type 0
Given = ℕ × Item

-- the second list is the first without some of its members
abbrev pub Leaves : {A : Type 0} → List A → List A → Type 0
Leaves [] [] = Unit {0}
Leaves [] (y ∷ ys) = ⊥
Leaves {A} (x ∷ xs) ys = Leaves xs ys ⊎ ((zs : List A) × (ys ≡ x ∷ zs) × Leaves xs zs)

-- what stands in a list
module _ {A : Type 0} where
  pub at_cases : (x y : A) (xs : List A) → Contains (y ∷ xs) x → (y ≡ x) ⊎ Contains xs x
  at_cases x y xs (zero, l, e) = inl e
  at_cases x y xs (suc k, l, e) = inr (k, omega (arith, l), e)

  pub first_at : (x : A) (xs : List A) → Contains (x ∷ xs) x
  first_at x xs = (0, omega arith, refl)

  pub later_at : (x y : A) (xs : List A) → Contains xs x → Contains (y ∷ xs) x
  later_at x y xs c = Contains-append_right (y ∷ []) xs x c

  pub all_at : (P : A → Type 0) (xs : List A) (x : A) → AllByRecursion P xs → Contains xs x → P x
  all_at P [] x all c = absurd (omega (arith, c.1))
  all_at P (y ∷ xs) x all c =
      elim (at_cases x y xs c) [ inl same ↦ subst P same all.0 | inr later ↦ all_at P xs x all.1 later ]

  pub alone_is : (x y : A) → Contains (y ∷ []) x → y ≡ x
  alone_is x y c = elim (at_cases x y [] c) [ inl same ↦ same | inr none ↦ absurd (omega (arith, none.1)) ]

-- the tickets of items
pub at_tickets : (items : List Given) (i : Given) → Contains items i → Contains (tickets_of items) i.0
at_tickets [] i c = absurd (omega (arith, c.1))
at_tickets (j ∷ items) i c =
    elim (at_cases i j items c) [
      | inl same ↦ subst (λ (k : Given). Contains (tickets_of (j ∷ items)) k.0) same (first_at j.0 (tickets_of items))
      | inr later ↦ later_at i.0 j.0 (tickets_of items) (at_tickets items i later)
    ]

pub of_tickets : (items : List Given) (t : ℕ) → Contains (tickets_of items) t → (i : Given) × Contains items i × (i.0 ≡ t)
of_tickets [] t c = absurd (omega (arith, c.1))
of_tickets (j ∷ items) t c =
    elim (at_cases t j.0 (tickets_of items) c) [
      | inl same ↦ (j, first_at j items, same)
      | inr later ↦ let is = of_tickets items t later in (is.0, later_at is.0 j items is.1, is.2)
    ]

-- what stands behind a ticket is above it
above : (t : ℕ) (xs : List Given) (i : Given) → AllByRecursion (λ (u : ℕ). t < u) (tickets_of xs) → Contains xs i → t < i.0
above t [] i all c = absurd (omega (arith, c.1))
above t (x ∷ xs) i all c =
    elim (at_cases i x xs c) [
      | inl same ↦ subst (λ (j : Given). t < j.0) same all.0
      | inr later ↦ above t xs i all.1 later
    ]

-- two lists with rising tickets and the same items: their first items are one, and without these they have the same items
same_first : (x y : Given) (xs ys : List Given) → IsRising (tickets_of (x ∷ xs)) → IsRising (tickets_of (y ∷ ys))
    → Contains (y ∷ ys) x → Contains (x ∷ xs) y → y ≡ x
same_first x y xs ys rise climb to fro =
    elim (at_cases x y ys to) [
      | inl same ↦ same
      | inr later ↦ elim (at_cases y x xs fro) [
        | inl same ↦ sym same
        | inr other ↦
            let one = above y.0 ys x climb.0 later in
            let two = above x.0 xs y rise.0 other in absurd (omega (arith, one, two))
      ]
    ]

without_first : (x y : Given) (xs ys : List Given) → y ≡ x → IsRising (tickets_of (x ∷ xs))
    → ((i : Given) → Contains (x ∷ xs) i → Contains (y ∷ ys) i) → (i : Given) → Contains xs i → Contains ys i
without_first x y xs ys same rise to i c =
    elim (at_cases i y ys (to i (later_at i x xs c))) [
      | inl at ↦
          let high = above x.0 xs i rise.0 c in
          let low : x.0 ≡ i.0 = ap (λ (j : Given). j.0) (sym same ∙ at) in absurd (omega (arith, high, low))
      | inr later ↦ later
    ]

same_items : (xs ys : List Given) → IsRising (tickets_of xs) → IsRising (tickets_of ys)
    → ((i : Given) → Contains xs i → Contains ys i) → ((i : Given) → Contains ys i → Contains xs i) → xs ≡ ys
same_items [] [] rise climb to fro = refl
same_items [] (y ∷ ys) rise climb to fro = let bad = fro y (first_at y ys) in absurd (omega (arith, bad.1))
same_items (x ∷ xs) [] rise climb to fro = let bad = to x (first_at x xs) in absurd (omega (arith, bad.1))
same_items (x ∷ xs) (y ∷ ys) rise climb to fro =
    let same : y ≡ x = same_first x y xs ys rise climb (to x (first_at x xs)) (fro y (first_at y ys)) in
    let rest : xs ≡ ys = same_items xs ys rise.1 climb.1 (without_first x y xs ys same rise to) (without_first y x ys xs (sym same) climb fro) in
    λ i. sym same i ∷ rest i

-- a list with rising tickets whose items stand in another one is that one without some of its items
behind_first : (x y : Given) (xs ys : List Given) → IsRising (tickets_of (x ∷ xs)) → IsRising (tickets_of (y ∷ ys)) → Contains ys x
    → ((i : Given) → Contains (x ∷ xs) i → Contains (y ∷ ys) i) → (i : Given) → Contains (x ∷ xs) i → Contains ys i
behind_first x y xs ys rise climb later to i c =
    elim (at_cases i y ys (to i c)) [
      | inl at ↦
          let low : y.0 ≡ i.0 = ap (λ (j : Given). j.0) at in
          let high = above y.0 ys x climb.0 later in
          elim (at_cases i x xs c) [
            | inl same ↦ let is : x.0 ≡ i.0 = ap (λ (j : Given). j.0) same in absurd (omega (arith, low, high, is))
            | inr other ↦ let more = above x.0 xs i rise.0 other in absurd (omega (arith, low, high, more))
          ]
      | inr behind ↦ behind
    ]

pub left_of : (xs ys : List Given) → IsRising (tickets_of xs) → IsRising (tickets_of ys)
    → ((i : Given) → Contains xs i → Contains ys i) → Leaves ys xs
left_of [] [] rise climb to = tt
left_of (x ∷ xs) [] rise climb to = let bad = to x (first_at x xs) in absurd (omega (arith, bad.1))
left_of [] (y ∷ ys) rise climb to = inl (left_of [] ys rise climb.1 (λ i c. absurd (omega (arith, c.1))))
left_of (x ∷ xs) (y ∷ ys) rise climb to =
    elim (at_cases x y ys (to x (first_at x xs))) [
      | inl same ↦ inr (xs, (λ i. sym same i ∷ xs), left_of xs ys rise.1 climb.1 (without_first x y xs ys same rise to))
      | inr later ↦ inl (left_of (x ∷ xs) ys rise climb.1 (behind_first x y xs ys rise climb later to))
    ]

-- what holds of each item of a list holds of those of one whose items stand there
pub all_of : (P : Given → Type 0) (xs ys : List Given) → AllByRecursion P ys → ((i : Given) → Contains xs i → Contains ys i)
    → AllByRecursion P xs
all_of P [] ys all to = tt
all_of P (x ∷ xs) ys all to = (all_at P ys x all (to x (first_at x xs)), all_of P xs ys all (λ i c. to i (later_at i x xs c)))

-- what one producer posted it put in
pub put_there : (p : ProducerView) (items : List Given) → ArePosted (p ∷ []) items → (i : Given) → Contains items i
    → Contains (claims p.pass.known.own) i
put_there p items are i at =
    let put = ((are.each i).0 at).1 in
    let same : p ≡ put.0 = alone_is put.0 p put.1 in
    subst (λ (q : ProducerView). Contains (claims q.pass.known.own) i) (sym same) put.2

-- what one producer posted, which took nothing out and put no stop in
pub posted_are : (p : ProducerView) (items : List Given) → IsRising (tickets_of items) → ArePosted (p ∷ []) items → takes p.pass.known.own ≡ []
    → AllByRecursion (λ (i : Given). i.1 ≢ Stop) (claims p.pass.known.own) → items ≡ claims p.pass.known.own
posted_are p items rise are took work =
    same_items items (claims p.pass.known.own) rise are.in_order.0 (put_there p items are) fro
  where
    kept : (i : Given) → ¬ IsOverrun (p ∷ []) i
    kept i lost =
        let same : p ≡ lost.0 = alone_is lost.0 p lost.1 in
        let at = subst (λ (q : ProducerView). Contains (takes q.pass.known.own) i) (sym same) lost.2 in
        let bad = subst (λ (l : List Given). Contains l i) took at in absurd (omega (arith, bad.1))

    fro : (i : Given) → Contains (claims p.pass.known.own) i → Contains items i
    fro i at = (are.each i).1 (all_at (λ (j : Given). j.1 ≢ Stop) (claims p.pass.known.own) i work at, (p, first_at p [], at), kept i)
