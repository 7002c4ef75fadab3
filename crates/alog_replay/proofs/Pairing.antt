-- Two lists that go together, what is picked of both, and items at the place of a name.
use Rattle.std.proofs.Common.{◌≡◌, ◌↔◌, ℕ, zero, suc, Some, List, [], ◌∷◌, map, inl, inr, refl, sym, ap, subst, ◌∙◌}
use Rattle.std.specs.Prelude.{slice_get}
use Rattle.std.specs.List.{AllByRecursion}
use Rattle.std.specs.Option.{option_map}
use Rattle.std.proofs.lemmas.Option.{none-some, same_Some}
use Rattle.alog_config.specs.Built.{ArePicked, EachIs}
use Rattle.alog_config.proofs.SharedPicking.{Apart, Has, picked_back}

-- what holds of each item holds of that at a place
pub all_at : {A : Type 0} (P : A → Type 0) (xs : List A) (n : ℕ) (x : A) → AllByRecursion P xs → slice_get xs n ≡ Some x → P x
all_at P [] n x h e = absurd (none-some x e)
all_at P (y ∷ ys) zero x h e = subst P (same_Some y x e) h.0
all_at P (y ∷ ys) (suc n) x h e = all_at P ys n x h.1 e

-- an item at a place, by its key
pub key_at : {A B : Type 0} (f : A → B) (xs : List A) (n : ℕ) → option_map f (slice_get xs n) ≡ slice_get (map f xs) n
key_at f [] n = refl
key_at f (x ∷ xs) zero = refl
key_at f (x ∷ xs) (suc n) = key_at f xs n

pub mapped_at : {A B : Type 0} (f : A → B) (xs : List A) (ys : List B) → map f xs ≡ ys → (n : ℕ) (x : A) → slice_get xs n ≡ Some x
    → slice_get ys n ≡ Some (f x)
mapped_at {B} f xs ys e n x h = ap (λ (zs : List B). slice_get zs n) (sym e) ∙ (sym (key_at f xs n) ∙ ap (option_map f) h)

has_key : {A : Type 0} (key : A → List ℕ) (xs : List A) (n : ℕ) (name : List ℕ) → option_map key (slice_get xs n) ≡ Some name
    → Has (λ x. key x ≡ name) xs
has_key key [] n name e = absurd (none-some name e)
has_key key (x ∷ xs) zero name e = inl (same_Some (key x) name e)
has_key key (x ∷ xs) (suc n) name e = inr (has_key key xs n name e)

-- where keys are apart, a key has one place
pub one_place : {A : Type 0} (key : A → List ℕ) (xs : List A) (i j : ℕ) (name : List ℕ) → Apart key xs
    → option_map key (slice_get xs i) ≡ Some name → option_map key (slice_get xs j) ≡ Some name → i ≡ j
one_place key [] i j name h f g = absurd (none-some name f)
one_place key (x ∷ xs) zero zero name h f g = refl
one_place key (x ∷ xs) zero (suc j) name h f g =
    absurd (h.0 (subst (λ n. Has (λ y. key y ≡ n) xs) (sym (same_Some (key x) name f)) (has_key key xs j name g)))
one_place key (x ∷ xs) (suc i) zero name h f g =
    absurd (h.0 (subst (λ n. Has (λ y. key y ≡ n) xs) (sym (same_Some (key x) name g)) (has_key key xs i name f)))
one_place key (x ∷ xs) (suc i) (suc j) name h f g = ap suc (one_place key xs i j name h.1 f g)

-- the keys of what is picked are apart, where those of all are
pub apart_picked : {A : Type 0} (P : A → Type 0) (key : A → List ℕ) (all picked : List A) → ArePicked P all picked → Apart key all
    → Apart key picked
apart_picked {A} P key [] picked h apart = subst (λ (xs : List A). Apart key xs) (sym h) tt
apart_picked {A} P key (x ∷ all) picked (inl h) apart =
    subst (λ (xs : List A). Apart key xs) (sym h.2)
    (λ has. apart.0 (picked_back P (λ y. key y ≡ key x) all h.0 h.3 has), apart_picked P key all h.0 h.3 apart.1)
apart_picked P key (x ∷ all) picked (inr h) apart = apart_picked P key all picked h.1 apart.1

-- two lists of the same keys go together
pub pairs_of : {A B X : Type 0} (f : A → X) (g : B → X) (R : A → B → Type 0) (xs : List A) (ys : List B) → map f xs ≡ map g ys
    → ((n : ℕ) (x : A) (y : B) → slice_get xs n ≡ Some x → slice_get ys n ≡ Some y → f x ≡ g y → R x y)
    → EachIs (λ x y. (f x ≡ g y) × R x y) xs ys
pairs_of f g R [] [] e each = tt
pairs_of f g R [] (y ∷ ys) e each = absurd (cc e)
pairs_of f g R (x ∷ xs) [] e each = absurd (cc e)
pairs_of f g R (x ∷ xs) (y ∷ ys) e each =
    let heads : f x ≡ g y = cc in
    let tails : map f xs ≡ map g ys = cc in
    ((heads, each 0 x y refl refl heads), pairs_of f g R xs ys tails (λ n a b p q same. each (suc n) a b p q same))

-- and so does what is picked of both
pub picked_pairs : {A : Type 0} {R : A → A → Type 0} {P : A → Type 0} → ((x y : A) → R x y → P x ↔ P y)
    → (xs ys ps qs : List A) → EachIs R xs ys → ArePicked P xs ps → ArePicked P ys qs → EachIs R ps qs
picked_pairs {A} {R} same [] [] ps qs each h g =
    subst (λ (z : List A). EachIs R z qs) (sym h) (subst (λ (z : List A). EachIs R [] z) (sym g) tt)
picked_pairs same [] (y ∷ ys) ps qs each h g = absurd each
picked_pairs same (x ∷ xs) [] ps qs each h g = absurd each
picked_pairs {A} {R} {P} same (x ∷ xs) (y ∷ ys) ps qs each (inl h) (inl g) =
    let more : EachIs R (x ∷ h.0) (y ∷ g.0) = (each.0, picked_pairs {R = R} {P = P} same xs ys h.0 g.0 each.1 h.3 g.3) in
    subst (λ (z : List A). EachIs R z qs) (sym h.2) (subst (λ (z : List A). EachIs R (x ∷ h.0) z) (sym g.2) more)
picked_pairs same (x ∷ xs) (y ∷ ys) ps qs each (inl h) (inr g) = absurd (g.0 ((same x y each.0).0 h.1))
picked_pairs same (x ∷ xs) (y ∷ ys) ps qs each (inr h) (inl g) = absurd (h.0 ((same x y each.0).1 g.1))
picked_pairs {R} {P} same (x ∷ xs) (y ∷ ys) ps qs each (inr h) (inr g) = picked_pairs {R = R} {P = P} same xs ys ps qs each.1 h.1 g.1

-- what both go with goes together
pub each_both : {A B C : Type 0} {P : A → B → Type 0} {Q : A → C → Type 0} {R : B → C → Type 0}
    → ((a : A) (b : B) (c : C) → P a b → Q a c → R b c) → (all : List A) (bs : List B) (cs : List C) → EachIs P all bs → EachIs Q all cs
    → EachIs R bs cs
each_both both [] [] [] h g = tt
each_both both [] [] (c ∷ cs) h g = absurd g
each_both both [] (b ∷ bs) cs h g = absurd h
each_both both (a ∷ all) [] cs h g = absurd h
each_both both (a ∷ all) (b ∷ bs) [] h g = absurd g
each_both {P} {Q} {R} both (a ∷ all) (b ∷ bs) (c ∷ cs) h g =
    (both a b c h.0 g.0, each_both {P = P} {Q = Q} {R = R} both all bs cs h.1 g.1)

-- lists that go together have the same of what their items have the same
pub each_map : {A B X : Type 0} (R : A → B → Type 0) (f : A → X) (g : B → X) → ((a : A) (b : B) → R a b → f a ≡ g b)
    → (xs : List A) (ys : List B) → EachIs R xs ys → map f xs ≡ map g ys
each_map R f g same [] [] h = refl
each_map R f g same [] (y ∷ ys) h = absurd h
each_map R f g same (x ∷ xs) [] h = absurd h
each_map R f g same (x ∷ xs) (y ∷ ys) h = ap (λ z. z ∷ map f xs) (same x y h.0) ∙ ap (λ zs. g y ∷ zs) (each_map R f g same xs ys h.1)

pub each_same : {A : Type 0} (xs ys : List A) → EachIs (λ x y. x ≡ y) xs ys → xs ≡ ys
each_same [] [] h = refl
each_same [] (y ∷ ys) h = absurd h
each_same (x ∷ xs) [] h = absurd h
each_same {A} (x ∷ xs) (y ∷ ys) h = ap (λ (z : A). z ∷ xs) h.0 ∙ ap (λ (zs : List A). y ∷ zs) (each_same xs ys h.1)
