-- Lists read by `get_elem?`, prefixes, sums, and the own entries of a seat.
use Rattle.std.proofs.Common.{◌≡◌, ◌≢◌, ℕ, zero, suc, ◌+◌, ◌<◌, ◌≤◌, ◌⊎◌, ◌==◌, Bool, true, false, cond, List, [], ◌∷◌, ◌++◌}
use Rattle.std.proofs.Common.{length, get_or, set, refl, sym, ap, subst, ◌∙◌, inl, inr, append_assoc, arith}
use Rattle.std.specs.List.{AllByRecursion, sum_by}
use Rattle.std.proofs.lemmas.List.{append-nil, length-append}
use Rattle.std.proofs.lemmas.Bool.Decides.{eqb_tells, leb_tells}
use Rattle.std.proofs.lemmas.List.Sums.{sum_by-set, sum_by-append}
use mathlib.Core.Option.{some, some-injective, some-ne-none}
use mathlib.Core.List.{IsPrefix}
use lib.ListN.{get_elem?}
use Rattle.atomic_table.proofs.Lists.{set_else}
use Rattle.alog_lane.specs.Seats.{Entry, Member, own_of, IsAmong, AreDistinct, AreExact, IsLonger}
use Rattle.alog_lane.specs.Laws.{AloneSawItsOwn}

pub same_or_not : (a b : ℕ) → (a ≡ b) ⊎ (a ≢ b)
same_or_not a b = elim (eqb_tells a b) [ inl h ↦ inl h.1 | inr h ↦ inr h.1 ]

-- a test of two numbers by its two cases
pub on_test : (P : Bool → Type 0) (a b : ℕ) → (a ≡ b → P true) → (a ≢ b → P false) → P (a == b)
on_test P a b same other = elim (eqb_tells a b) [ inl h ↦ subst P (sym h.0) (same h.1) | inr h ↦ subst P (sym h.0) (other h.1) ]

module _ {A : Type 0} where
  pub inside : (l : List A) (i : ℕ) (a : A) → get_elem? l i ≡ some a → i < length l
  inside [] i a e = absurd (some-ne-none a (sym e))
  inside (x ∷ xs) zero a e = omega arith
  inside (x ∷ xs) (suc i) a e = let tail : i < length xs = inside xs i a e in omega arith

  pub found : (l : List A) (i : ℕ) (a d : A) → get_elem? l i ≡ some a → get_or l i d ≡ a
  found [] i a d e = absurd (some-ne-none a (sym e))
  found (x ∷ xs) zero a d e = some-injective x a e
  found (x ∷ xs) (suc i) a d e = found xs i a d e

  pub one_value : (l : List A) (i : ℕ) (a b : A) → get_elem? l i ≡ some a → get_elem? l i ≡ some b → a ≡ b
  one_value l i a b p q = some-injective a b (sym p ∙ q)

  -- the value at the end of a list, and those before it
  pub at_end : (l : List A) (a b : A) (j : ℕ) → get_elem? (l ++ a ∷ []) j ≡ some b → (get_elem? l j ≡ some b) ⊎ ((j ≡ length l) × (a ≡ b))
  at_end [] a b zero e = inr (refl, some-injective a b e)
  at_end [] a b (suc j) e = absurd (some-ne-none b (sym e))
  at_end (x ∷ xs) a b zero e = inl e
  at_end (x ∷ xs) a b (suc j) e = elim (at_end xs a b j e) [ inl h ↦ inl h | inr h ↦ inr (omega (arith, h.0), h.1) ]

  pub no_more : (l : List A) → length l ≡ 0 → l ≡ []
  no_more [] e = refl
  no_more (x ∷ xs) e = absurd (omega arith)

  pub prefix_same : (h : List A) → IsPrefix h h
  prefix_same h = ([], append-nil h)

  pub prefix_longer : (s h more : List A) → IsPrefix s h → IsPrefix s (h ++ more)
  prefix_longer s h more p = (p.0 ++ more, sym (append_assoc s p.0 more) ∙ ap (λ (l : List A). l ++ more) p.1)

  -- of two beginnings of one list the shorter begins the longer
  pub prefix_of_longer : (u s h : List A) → IsPrefix u h → IsPrefix s h → length u ≤ length s → IsPrefix u s
  prefix_of_longer [] s h p q le = (s, refl)
  prefix_of_longer (x ∷ u) [] h p q le = absurd (omega arith)
  prefix_of_longer (x ∷ u) (y ∷ s) h p q le =
      let both : x ∷ (u ++ p.0) ≡ y ∷ (s ++ q.0) = p.1 ∙ sym q.1
      in let first : x ≡ y = cc
      in let tails : u ++ p.0 ≡ s ++ q.0 = cc
      in let rest : IsPrefix u s = prefix_of_longer u s (s ++ q.0) (p.0, tails) (q.0, refl) (omega arith)
      in (rest.0, (λ i. first i ∷ rest.1 i))

  pub each_of : (P Q : A → Type 0) (l : List A) → ((x : A) → P x → Q x) → AllByRecursion P l → AllByRecursion Q l
  each_of P Q [] f all = tt
  each_of P Q (x ∷ xs) f all = (f x all.0, each_of P Q xs f all.1)

  pub each_of_two : (P R Q : A → Type 0) (l : List A) → ((x : A) → P x → R x → Q x) → AllByRecursion P l → AllByRecursion R l
      → AllByRecursion Q l
  each_of_two P R Q [] f all more = tt
  each_of_two P R Q (x ∷ xs) f all more = (f x all.0 more.0, each_of_two P R Q xs f all.1 more.1)

  pub each_append : (P : A → Type 0) (l m : List A) → AllByRecursion P l → AllByRecursion P m → AllByRecursion P (l ++ m)
  each_append P [] m all more = more
  each_append P (x ∷ xs) m all more = (all.0, each_append P xs m all.1 more)

  -- a sum where one term changes, and where a term is added
  pub sum_changed : (f : A → ℕ) (l : List A) (i : ℕ) (a b : A) → get_elem? l i ≡ some a → sum_by f (set l i b) + f a ≡ sum_by f l + f b
  sum_changed f l i a b e =
      let at : get_or l i a ≡ a = found l i a a e
      in ap (λ (x : A). sum_by f (set l i b) + f x) (sym at) ∙ sum_by-set f l i b a (inside l i a e)

  pub sum_with_last : (f : A → ℕ) (l : List A) (a : A) → sum_by f (l ++ a ∷ []) ≡ sum_by f l + f a
  sum_with_last f l a = let e : sum_by f (a ∷ []) ≡ f a = omega arith in sum_by-append f l (a ∷ []) ∙ ap (λ (n : ℕ). sum_by f l + n) e

  -- two terms are parts of the sum
  pub sum_of_two : (f : A → ℕ) (l : List A) {i j : ℕ} (a b : A) {nothing : A} → f nothing ≡ 0 → get_elem? l i ≡ some a
      → get_elem? l j ≡ some b → j ≢ i → f a + f b ≤ sum_by f l
  sum_of_two f l {i} {j} a b {nothing} none e g apart =
      let first : sum_by f (set l i nothing) + f a ≡ sum_by f l + f nothing = sum_changed f l i a nothing e
      in let second : sum_by f (set (set l i nothing) j nothing) + f b ≡ sum_by f (set l i nothing) + f nothing = sum_changed f
      (set l i nothing) j b nothing (set_else l i j nothing apart ∙ g)
      in omega arith

  -- and one term is
  pub at_most : (f : A → ℕ) (l : List A) (i : ℕ) (a nothing : A) → f nothing ≡ 0 → get_elem? l i ≡ some a → f a ≤ sum_by f l
  at_most f l i a nothing none e = let changed : sum_by f (set l i nothing) + f a ≡ sum_by f l + f nothing = sum_changed f l i a
      nothing e in omega arith

module _ {D : Type 0} where
  -- own entries in two histories, one after the other
  pub own_of-append : (a : ℕ) (h g : List (Entry D)) → own_of a (h ++ g) ≡ own_of a h ++ own_of a g
  own_of-append a [] g = refl
  own_of-append a (x ∷ h) g =
      on_test (λ b. cond b (x ∷ own_of a (h ++ g)) (own_of a (h ++ g)) ≡ cond b (x ∷ own_of a h)
      (own_of a h) ++ own_of a g) x.seat a (λ _. ap (λ r. x ∷ r) (own_of-append a h g)) (λ _. own_of-append a h g)

  -- one entry is its seat's, and no other's
  pub own_of_one : (x : Entry D) → own_of x.seat (x ∷ []) ≡ x ∷ []
  own_of_one x = on_test (λ b. cond b (x ∷ []) [] ≡ x ∷ []) x.seat x.seat (λ _. refl) (λ d. absurd (d refl))

  pub own_of_other : (b : ℕ) (x : Entry D) → b ≢ x.seat → own_of b (x ∷ []) ≡ []
  own_of_other b x apart = on_test (λ t. cond t (x ∷ []) [] ≡ []) x.seat b (λ e. absurd (apart (sym e))) (λ _. refl)

  -- what holds of each seat with entries holds of each entry's seat
  pub all_seats : (P : ℕ → Type 0) (h : List (Entry D)) → ((b : ℕ) → own_of b h ≢ [] → P b) → AllByRecursion (λ (x : Entry D). P x.seat) h
  all_seats P [] each = tt
  all_seats P (x ∷ h) each = (
    each x.seat (λ none. let here : own_of x.seat (x ∷ h) ≡ x ∷ own_of x.seat h = on_test
        (λ t. cond t (x ∷ own_of x.seat h) (own_of x.seat h) ≡ x ∷ own_of x.seat h) x.seat x.seat (λ _. refl) (λ d. absurd
        (d refl)) in let wrong : x ∷ own_of x.seat h ≡ [] = sym here ∙ none in cc),
    all_seats P h (λ b some_own. each b (λ none. some_own (on_test (λ t. cond t (x ∷ own_of b h) (own_of b h) ≡ []
        → own_of b h ≡ []) x.seat b (λ _ wrong. cc) (λ _ e. e) none))),
  )

  -- a seat has no entries in a part of a history of which it has all before that part
  pub none_after : (a : ℕ) (own seen more : List (Entry D)) → own ≡ own_of a seen → own ≡ own_of a (seen ++ more) → own_of a more ≡ []
  none_after a own seen more first both =
      let long : length own ≡ length (own_of a seen) + length (own_of a more) = ap length (both ∙ own_of-append a seen more)
      ∙ length-append (own_of a seen) (own_of a more)
      in let short : length own ≡ length (own_of a seen) = ap length first
      in no_more (own_of a more) (omega arith)

  -- own entries that are exact in a beginning and in the whole are exact between them
  between : (a : ℕ) (u p h : List (Entry D)) {own : List (Entry D)} → IsPrefix u p → IsPrefix p h → own ≡ own_of a u → own ≡ own_of a h
      → own ≡ own_of a p
  between a u p h {own} first second low high =
      let P : List (Entry D) = own_of a p
      in let Y : List (Entry D) = own_of a second.0
      in let X : List (Entry D) = own_of a first.0
      in let whole : own_of a h ≡ P ++ Y = sym (ap (λ l. own_of a l) second.1) ∙ own_of-append a p second.0
      in let part : P ≡ own_of a u ++ X = sym (ap (λ l. own_of a l) first.1) ∙ own_of-append a u first.0
      in let long : length own ≡ length P + length Y = ap length (high ∙ whole) ∙ length-append P Y
      in let short : length P ≡ length own + length X = ap length (part ∙ ap (λ l. l ++ X) (sym low)) ∙ length-append own X
      in let none : Y ≡ [] = no_more Y (omega arith)
      in high ∙ whole ∙ ap (λ l. P ++ l) none ∙ append-nil P

  pub exact_between : {u s p : List (Entry D)} (h : List (Entry D)) → IsLonger u s p → IsPrefix p h → (l : List (Member D)) → AreExact l h
      → AllByRecursion (λ (c : Member D). (c.own ≡ own_of c.seat u) ⊎ (c.own ≡ own_of c.seat s)) l → AreExact l p
  exact_between {u} {s} {p} h longer below l exact either =
      each_of_two (λ (c : Member D). c.own ≡ own_of c.seat h) (λ (c : Member D). (c.own ≡ own_of c.seat u)
      ⊎ (c.own ≡ own_of c.seat s)) (λ (c : Member D). c.own ≡ own_of c.seat p) l
      (λ (c : Member D) high low. elim low [
        | inl e ↦ between c.seat u p h longer.first below e high
        | inr e ↦ between c.seat s p h longer.second below e high
      ])
      exact either

  -- the longer of two beginnings
  pub longer_of : (u s h : List (Entry D)) → IsPrefix u h → IsPrefix s h → (l : List (Entry D)) × IsLonger u s l × IsPrefix l h
  longer_of u s h p q =
      elim (leb_tells (length u) (length s)) [
        | inl le ↦ (s, record { one = inr refl; first = prefix_of_longer u s h p q le.1; second = prefix_same s }, q)
        | inr lt ↦ (u, record { one = inl refl; first = prefix_same u; second = prefix_of_longer s u h q p (omega (arith, lt.1)) }, p)
      ]

  -- members of two lists
  pub among_first : (b : ℕ) (l m : List (Member D)) → IsAmong b l → IsAmong b (l ++ m)
  among_first b [] m is = absurd is
  among_first b (c ∷ l) m is = elim is [ inl e ↦ inl e | inr more ↦ inr (among_first b l m more) ]

  pub among_second : (b : ℕ) (l m : List (Member D)) → IsAmong b m → IsAmong b (l ++ m)
  among_second b [] m is = is
  among_second b (c ∷ l) m is = inr (among_second b l m is)

  pub among_either : (b : ℕ) (l m : List (Member D)) → IsAmong b (l ++ m) → IsAmong b l ⊎ IsAmong b m
  among_either b [] m is = inr is
  among_either b (c ∷ l) m is = elim is [
    | inl e ↦ inl (inl e)
    | inr more ↦ elim
        (among_either b l m more) [ inl first ↦ inl (inr first) | inr second ↦ inr second ]
  ]

  pub distinct_append : (l m : List (Member D)) → AreDistinct l → AreDistinct m → ((b : ℕ) → IsAmong b l → ¬ IsAmong b m)
      → AreDistinct (l ++ m)
  distinct_append [] m first second apart = second
  distinct_append (c ∷ l) m first second apart = (
    (λ is. elim (among_either c.seat l m is) [ inl again ↦ first.0 again | inr other ↦ apart c.seat (inl refl) other ]),
    distinct_append l m first.1 second (λ b is. apart b (inr is)),
  )

  -- a history in which some members are exact, and to which only they add: it stays exact where they added nothing
  pub exact_apart : (l : List (Member D)) (h more : List (Entry D)) → ((b : ℕ) → IsAmong b l → own_of b more ≡ []) → AreExact l h
      → AreExact l (h ++ more)
  exact_apart [] h more apart exact = tt
  exact_apart (c ∷ l) h more apart exact = (
    exact.0 ∙ sym (own_of-append c.seat h more ∙ ap (λ (z : List (Entry D)). own_of c.seat h ++ z) (apart c.seat (inl refl))
        ∙ append-nil (own_of c.seat h)),
    exact_apart l h more (λ b is. apart b (inr is)) exact.1,
  )

  all_own : (a : ℕ) (h : List (Entry D)) → AllByRecursion (λ (x : Entry D). x.seat ≡ a) h → own_of a h ≡ h
  all_own a [] all = refl
  all_own a (x ∷ h) all = on_test (λ b. cond b (x ∷ own_of a h) (own_of a h) ≡ x ∷ h) x.seat a (λ _. ap (λ r. x ∷ r)
      (all_own a h all.1)) (λ d. absurd (d all.0))

pub alone_saw_its_own : (D : Type 0) → AloneSawItsOwn D
alone_saw_its_own D k faithful whole alone =
    let J : List (Member D) → Type 0 = λ l. AllByRecursion (λ (x : Entry D). IsAmong x.seat (record {
      seat = k.seat;
      own = k.own;
    } ∷ l)) k.seen
    in let mine : AllByRecursion (λ (x : Entry D). x.seat ≡ k.seat) k.seen =
    each_of (λ (x : Entry D). IsAmong x.seat (record {
      seat = k.seat;
      own = k.own;
    } ∷ [])) (λ (x : Entry D). x.seat ≡ k.seat) k.seen (λ x is. elim is [ inl e ↦ e | inr none ↦ absurd none ])
    (subst J alone whole)
    in sym (all_own k.seat k.seen mine) ∙ sym faithful.own
