-- Lists of items that are such, and items that are taken out of them.
use Rattle.std.proofs.Common.{◌≡◌, ◌⊎◌, ◌↔◌, ◌+◌, ◌<◌, ◌≤◌, ℕ, zero, suc, List, [], ◌∷◌, ◌++◌, length, get_or, take, map, slice_get, Some}
use Rattle.std.proofs.Common.{inl, inr, refl, sym, ap, subst, ◌∙◌, arith}
use Rattle.std.specs.List.{Any, remove}
use Rattle.alog_config.specs.Built.{ArePicked, EachIs}

-- an item of the list is such, by recursion
abbrev pub Has : {A : Type 0} → (A → Type 0) → List A → Type 0
Has P [] = ⊥
Has P (x ∷ xs) = P x ⊎ Has P xs

pub has_any : {A : Type 0} (P : A → Type 0) (xs : List A) → Has P xs → Any P xs
has_any P [] h = absurd h
has_any P (x ∷ xs) (inl p) = (zero, x, omega arith, refl, p)
has_any P (x ∷ xs) (inr h) = let r = has_any P xs h in let within = r.2 in (suc r.0, r.1, omega (arith, within), r.3, r.4)

pub has_at : {A : Type 0} (P : A → Type 0) (xs : List A) (k : ℕ) (x : A) → k < length xs → get_or xs k x ≡ x → P x → Has P xs
has_at P [] k x h e p = absurd (omega (arith, h))
has_at P (y ∷ ys) zero x h e p = inl (subst P (sym e) p)
has_at P (y ∷ ys) (suc k) x h e p = inr (has_at P ys k x (omega (arith, h)) e p)

pub any_has : {A : Type 0} (P : A → Type 0) (xs : List A) → Any P xs → Has P xs
any_has P xs h = has_at P xs h.0 h.1 h.2 h.3 h.4

pub has_got : {A : Type 0} (P : A → Type 0) (xs : List A) (k : ℕ) (x : A) → slice_get xs k ≡ Some x → P x → Has P xs
has_got P [] k x e p = absurd (cc e)
has_got P (y ∷ ys) zero x e p = let same : y ≡ x = cc in inl (subst P (sym same) p)
has_got P (y ∷ ys) (suc k) x e p = inr (has_got P ys k x e p)

pub has_if : {A : Type 0} (P Q : A → Type 0) (xs : List A) → ((x : A) → P x → Q x) → Has P xs → Has Q xs
has_if P Q [] f h = h
has_if P Q (x ∷ xs) f (inl p) = inl (f x p)
has_if P Q (x ∷ xs) f (inr h) = inr (has_if P Q xs f h)

pub has_left : {A : Type 0} (P : A → Type 0) (xs ys : List A) → Has P xs → Has P (xs ++ ys)
has_left P [] ys h = absurd h
has_left P (x ∷ xs) ys (inl p) = inl p
has_left P (x ∷ xs) ys (inr h) = inr (has_left P xs ys h)

pub has_right : {A : Type 0} (P : A → Type 0) (xs ys : List A) → Has P ys → Has P (xs ++ ys)
has_right P [] ys h = h
has_right P (x ∷ xs) ys h = inr (has_right P xs ys h)

pub has_parts : {A : Type 0} (P : A → Type 0) (xs ys : List A) → Has P (xs ++ ys) → Has P xs ⊎ Has P ys
has_parts P [] ys h = inr h
has_parts P (x ∷ xs) ys (inl p) = inl (inl p)
has_parts P (x ∷ xs) ys (inr h) = elim (has_parts P xs ys h) [ inl l ↦ inl (inr l) | inr r ↦ inr r ]

pub has_mapped : {A B : Type 0} (f : A → B) (P : B → Type 0) (xs : List A) → Has (λ x. P (f x)) xs → Has P (map f xs)
has_mapped f P [] h = h
has_mapped f P (x ∷ xs) (inl p) = inl p
has_mapped f P (x ∷ xs) (inr h) = inr (has_mapped f P xs h)

pub has_of_map : {A B : Type 0} (f : A → B) (P : B → Type 0) (xs : List A) → Has P (map f xs) → Has (λ x. P (f x)) xs
has_of_map f P [] h = h
has_of_map f P (x ∷ xs) (inl p) = inl p
has_of_map f P (x ∷ xs) (inr h) = inr (has_of_map f P xs h)

-- no two items have one key
abbrev pub Apart : {A : Type 0} → (A → List ℕ) → List A → Type 0
Apart key [] = Unit {0}
Apart key (x ∷ xs) = (¬ Has (λ y. key y ≡ key x) xs) × Apart key xs

pub apart_of_map : {A B : Type 0} (f : A → B) (key : B → List ℕ) (xs : List A) → Apart key (map f xs) → Apart (λ x. key (f x)) xs
apart_of_map f key [] h = tt
apart_of_map f key (x ∷ xs) h = (λ has. h.0 (has_mapped f (λ y. key y ≡ key (f x)) xs has), apart_of_map f key xs h.1)

-- what is picked, if one is such as the other
pub picked_iff : {A : Type 0} (P Q : A → Type 0) (all picked : List A) → ((a : A) → P a ↔ Q a) → ArePicked P all picked → ArePicked Q all picked
picked_iff P Q [] picked f h = h
picked_iff P Q (a ∷ all) picked f (inl h) = inl (h.0, (f a).0 h.1, h.2, picked_iff P Q all h.0 f h.3)
picked_iff P Q (a ∷ all) picked f (inr h) = inr (λ q. h.0 ((f a).1 q), picked_iff P Q all picked f h.1)

-- the same, where no item has a key
pub picked_apart : {A : Type 0} (P : A → Type 0) (key : A → List ℕ) (name : List ℕ) (all picked : List A) → ¬ Has (λ a. key a ≡ name) all
    → ArePicked P all picked → ArePicked (λ a. P a × (¬ (key a ≡ name))) all picked
picked_apart P key name [] picked never h = h
picked_apart P key name (a ∷ all) picked never (inl h) =
    inl (h.0, (h.1, λ e. never (inl e)), h.2, picked_apart P key name all h.0 (λ x. never (inr x)) h.3)
picked_apart P key name (a ∷ all) picked never (inr h) = inr (λ q. h.0 q.0, picked_apart P key name all picked (λ x. never (inr x)) h.1)

-- a picked item is one of them, and such
pub picked_in : {A : Type 0} (P Q : A → Type 0) (all picked : List A) (k : ℕ) {p : A} → ArePicked P all picked → slice_get picked k ≡ Some p
    → Q p → Has Q all × P p
picked_in P Q [] [] k h e q = absurd (cc e)
picked_in P Q [] (b ∷ bs) k h e q = absurd (cc h)
picked_in P Q (a ∷ all) picked k {p} (inr h) e q = let r = picked_in P Q all picked k h.1 e q in (inr r.0, r.1)
picked_in P Q (a ∷ all) [] k (inl h) e q = absurd (cc e)
picked_in P Q (a ∷ all) (b ∷ bs) zero {p} (inl h) e q =
    let head = h.2 in
    let same : a ≡ p = cc in
    (inl (subst Q (sym same) q), subst P same h.1)
picked_in {A} P Q (a ∷ all) (b ∷ bs) (suc k) {p} (inl h) e q =
    let cons = h.2 in
    let tails : h.0 ≡ bs = cc in
    let r = picked_in P Q all bs k (subst (λ (xs : List A). ArePicked P all xs) tails h.3) e q in
    (inr r.0, r.1)

-- Where keys are apart, one item leaves what is picked, and no other is of its key.
pub picked_without : {A : Type 0} (P : A → Type 0) (key : A → List ℕ) (all picked : List A) (k : ℕ) {p : A} → Apart key all
    → ArePicked P all picked → slice_get picked k ≡ Some p → ArePicked (λ a. P a × (¬ (key a ≡ key p))) all (remove picked k)
picked_without P key [] [] k apart h e = absurd (cc e)
picked_without P key [] (b ∷ bs) k apart h e = absurd (cc h)
picked_without P key (a ∷ all) picked k {p} apart (inr h) e =
    inr (λ q. h.0 q.0, picked_without P key all picked k apart.1 h.1 e)
picked_without P key (a ∷ all) [] k apart (inl h) e = absurd (cc e)
picked_without {A} P key (a ∷ all) (b ∷ bs) zero {p} apart (inl h) e =
    let cons = h.2 in
    let same : a ≡ p = cc in
    let tails : h.0 ≡ bs = cc in
    let here = subst (λ (xs : List A). ArePicked P all xs) tails h.3 in
    let none : ¬ Has (λ x. key x ≡ key p) all = subst (λ x. ¬ Has (λ y. key y ≡ key x) all) same apart.0 in
    inr (λ q. q.1 (ap key same), picked_apart P key (key p) all bs none here)
picked_without {A} P key (a ∷ all) (b ∷ bs) (suc k) {p} apart (inl h) e =
    let cons = h.2 in
    let tails : h.0 ≡ bs = cc in
    let heads : b ≡ a = cc in
    let here = subst (λ (xs : List A). ArePicked P all xs) tails h.3 in
    let there = picked_in P (λ x. key x ≡ key p) all bs k here e refl in
    let differ : ¬ (key a ≡ key p) = λ same. apart.0 (subst (λ n. Has (λ x. key x ≡ n) all) (sym same) there.0) in
    inl (remove bs k, (h.1, differ), ap (λ x. x ∷ remove bs k) heads, picked_without P key all bs k apart.1 here e)

-- an item of a key is picked, if each such item is
pub picked_has : {A : Type 0} (P Q : A → Type 0) (all picked : List A) → ((a : A) → Q a → P a) → ArePicked P all picked → Has Q all → Has Q picked
picked_has P Q [] picked f h has = absurd has
picked_has {A} P Q (a ∷ all) picked f (inl h) (inl q) = subst (λ (xs : List A). Has Q xs) (sym h.2) (inl q)
picked_has {A} P Q (a ∷ all) picked f (inl h) (inr has) =
    subst (λ (xs : List A). Has Q xs) (sym h.2) (inr (picked_has P Q all h.0 f h.3 has))
picked_has P Q (a ∷ all) picked f (inr h) (inl q) = absurd (h.0 (f a q))
picked_has P Q (a ∷ all) picked f (inr h) (inr has) = picked_has P Q all picked f h.1 has

-- one item more
pub picked_more : {A : Type 0} (P : A → Type 0) (all picked : List A) (a : A) → ArePicked P all picked → P a
    → ArePicked P (all ++ a ∷ []) (picked ++ a ∷ [])
picked_more {A} P [] picked a h such = inl ([], such, ap (λ (xs : List A). xs ++ a ∷ []) h, refl)
picked_more {A} P (x ∷ all) picked a (inl h) such =
    inl (h.0 ++ a ∷ [], h.1, ap (λ (xs : List A). xs ++ a ∷ []) h.2, picked_more P all h.0 a h.3 such)
picked_more P (x ∷ all) picked a (inr h) such = inr (h.0, picked_more P all picked a h.1 such)

pub picked_short : {A : Type 0} (P : A → Type 0) (all picked : List A) → ArePicked P all picked → length picked ≤ length all
picked_short {A} P [] picked h = let e = ap (λ (xs : List A). length xs) h in omega (arith, e)
picked_short {A} P (a ∷ all) picked (inl h) =
    let e = ap (λ (xs : List A). length xs) h.2 in let r = picked_short P all h.0 h.3 in omega (arith, e, r)
picked_short P (a ∷ all) picked (inr h) = let r = picked_short P all picked h.1 in omega (arith, r)

-- two lists that go together
pub each_is_if : {A B : Type 0} (R Q : A → B → Type 0) (all : List A) (bs : List B) → ((a : A) (b : B) → R a b → Q a b) → EachIs R all bs
    → EachIs Q all bs
each_is_if R Q [] [] f h = tt
each_is_if R Q [] (b ∷ bs) f h = absurd h
each_is_if R Q (a ∷ all) [] f h = absurd h
each_is_if R Q (a ∷ all) (b ∷ bs) f h = (f a b h.0, each_is_if R Q all bs f h.1)

pub each_is_more : {A B : Type 0} (R : A → B → Type 0) (all : List A) (bs : List B) (a : A) (b : B) → EachIs R all bs → R a b
    → EachIs R (all ++ a ∷ []) (bs ++ b ∷ [])
each_is_more R [] [] a b h r = (r, tt)
each_is_more R [] (y ∷ bs) a b h r = absurd h
each_is_more R (x ∷ all) [] a b h r = absurd h
each_is_more R (x ∷ all) (y ∷ bs) a b h r = (h.0, each_is_more R all bs a b h.1 r)

pub each_is_long : {A B : Type 0} (R : A → B → Type 0) (all : List A) (bs : List B) → EachIs R all bs → length bs ≡ length all
each_is_long R [] [] h = refl
each_is_long R [] (b ∷ bs) h = absurd h
each_is_long R (a ∷ all) [] h = absurd h
each_is_long R (a ∷ all) (b ∷ bs) h = ap suc (each_is_long R all bs h.1)

-- an item at a place, of a list with one item more
pub at_more : {A : Type 0} (xs : List A) (x y : A) (n : ℕ) → slice_get (xs ++ x ∷ []) n ≡ Some y
    → (slice_get xs n ≡ Some y) ⊎ ((n ≡ length xs) × (x ≡ y))
at_more [] x y zero e = let same : x ≡ y = cc in inr (refl, same)
at_more [] x y (suc n) e = absurd (cc e)
at_more (z ∷ xs) x y zero e = inl e
at_more (z ∷ xs) x y (suc n) e = elim (at_more xs x y n e) [ inl l ↦ inl l | inr r ↦ inr (ap suc r.0, r.1) ]

-- a list around one of its places
pub split_at : {A : Type 0} (xs : List A) (i : ℕ) (x : A) → slice_get xs i ≡ Some x → (back : List A) × (xs ≡ take i xs ++ x ∷ back)
split_at [] i x e = absurd (cc e)
split_at {A} (y ∷ ys) zero x e = let same : y ≡ x = cc in (ys, ap (λ (z : A). z ∷ ys) same)
split_at {A} (y ∷ ys) (suc i) x e = let r = split_at ys i x e in (r.0, ap (λ (zs : List A). y ∷ zs) r.1)

pub take_one_more : {A : Type 0} (xs : List A) (i : ℕ) (x : A) → slice_get xs i ≡ Some x → take (i + 1) xs ≡ take i xs ++ x ∷ []
take_one_more [] i x e = absurd (cc e)
take_one_more {A} (y ∷ ys) zero x e = let same : y ≡ x = cc in ap (λ (z : A). z ∷ []) same
take_one_more {A} (y ∷ ys) (suc i) x e =
    let next : suc i + 1 ≡ suc (i + 1) = omega arith in
    ap (λ n. take n (y ∷ ys)) next ∙ ap (λ (zs : List A). y ∷ zs) (take_one_more ys i x e)

-- what is so of one that was picked is so of one of all
pub picked_back : {A : Type 0} (P Q : A → Type 0) (all picked : List A) → ArePicked P all picked → Has Q picked → Has Q all
picked_back {A} P Q [] picked h has = subst (λ (xs : List A). Has Q xs) h has
picked_back {A} P Q (a ∷ all) picked (inl h) has =
    let there : Q a ⊎ Has Q h.0 = subst (λ (xs : List A). Has Q xs) h.2 has in
    elim there [ inl q ↦ inl q | inr r ↦ inr (picked_back P Q all h.0 h.3 r) ]
picked_back P Q (a ∷ all) picked (inr h) has = inr (picked_back P Q all picked h.1 has)
