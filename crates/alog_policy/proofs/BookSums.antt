-- What a history sums to is what its members' own entries sum to together, where each entry is a member's.
use Rattle.std.proofs.Common.{◌≡◌, ◌≢◌, ℕ, ◌+◌, cond, List, [], ◌∷◌, refl, sym, ap, subst, ◌∙◌, inl, inr, arith}
use Rattle.std.specs.List.{AllByRecursion, sum_by}
use Rattle.std.proofs.lemmas.List.Sums.{sum_by-cons}
use Rattle.alog_lane.specs.Seats.{Entry, Member, own_of, IsAmong, AreDistinct, AreExact}
use Rattle.alog_lane.proofs.SharedLists.{on_test}

module _ {D : Type 0} (f : Entry D → ℕ) where
  abbrev pub own_sum : List (Member D) → ℕ
  own_sum members = sum_by (λ (m : Member D). sum_by f m.own) members

  -- the same of each member's entries of a history
  abbrev sum_of : List (Member D) → List (Entry D) → ℕ
  sum_of members h = sum_by (λ (m : Member D). sum_by f (own_of m.seat h)) members

  more : (m : Member D) (members : List (Member D)) (h : List (Entry D))
      → sum_of (m ∷ members) h ≡ sum_by f (own_of m.seat h) + sum_of members h
  more m members h = sum_by-cons (λ (c : Member D). sum_by f (own_of c.seat h)) m members

  exact_sum : (members : List (Member D)) (h : List (Entry D)) → AreExact members h → own_sum members ≡ sum_of members h
  exact_sum [] h exact = refl
  exact_sum (m ∷ members) h exact =
      let one : own_sum (m ∷ members) ≡ sum_by f m.own + own_sum members = sum_by-cons (λ (c : Member D). sum_by f c.own) m members
      in let two : sum_of (m ∷ members) h ≡ sum_by f (own_of m.seat h) + sum_of members h = more m members h
      in let first : sum_by f m.own ≡ sum_by f (own_of m.seat h) = ap (λ l. sum_by f l) exact.0
      in let others : own_sum members ≡ sum_of members h = exact_sum members h exact.1
      in omega (arith, one, two, first, others)

  none : (members : List (Member D)) → sum_of members [] ≡ 0
  none [] = refl
  none (m ∷ members) =
      let one : sum_of (m ∷ members) [] ≡ 0 + sum_of members [] = more m members []
      in let others : sum_of members [] ≡ 0 = none members
      in omega (arith, one, others)

  -- one more entry is one seat's, and no other's
  here : (a : ℕ) (x : Entry D) (h : List (Entry D)) → x.seat ≡ a → sum_by f (own_of a (x ∷ h)) ≡ f x + sum_by f (own_of a h)
  here a x h same = on_test (λ b. sum_by f (cond b (x ∷ own_of a h) (own_of a h)) ≡ f x + sum_by f (own_of a h)) x.seat a
      (λ _. sum_by-cons f x (own_of a h)) (λ apart. absurd (apart same))

  elsewhere : (a : ℕ) (x : Entry D) (h : List (Entry D)) → x.seat ≢ a → sum_by f (own_of a (x ∷ h)) ≡ sum_by f (own_of a h)
  elsewhere a x h apart = on_test (λ b. sum_by f (cond b (x ∷ own_of a h) (own_of a h)) ≡ sum_by f (own_of a h)) x.seat a
      (λ same. absurd (apart same)) (λ _. refl)

  of_none : (members : List (Member D)) (x : Entry D) (h : List (Entry D)) → ¬ IsAmong x.seat members
      → sum_of members (x ∷ h) ≡ sum_of members h
  of_none [] x h apart = refl
  of_none (m ∷ members) x h apart =
      let first : sum_by f (own_of m.seat (x ∷ h)) ≡ sum_by f (own_of m.seat h) = elsewhere m.seat x h (λ e. apart (inl e))
      in let others : sum_of members (x ∷ h) ≡ sum_of members h = of_none members x h (λ is. apart (inr is))
      in let long : sum_of (m ∷ members) (x ∷ h) ≡ sum_by f (own_of m.seat (x ∷ h)) + sum_of members (x ∷ h) = more m members (x ∷ h)
      in let short : sum_of (m ∷ members) h ≡ sum_by f (own_of m.seat h) + sum_of members h = more m members h
      in omega (arith, long, short, first, others)

  of_one : (members : List (Member D)) (x : Entry D) (h : List (Entry D)) → AreDistinct members → IsAmong x.seat members
      → sum_of members (x ∷ h) ≡ f x + sum_of members h
  of_one [] x h distinct is = absurd is
  of_one (m ∷ members) x h distinct is =
      let N : ℕ → Type 0 = λ z. IsAmong z members
      in let long : sum_of (m ∷ members) (x ∷ h) ≡ sum_by f (own_of m.seat (x ∷ h)) + sum_of members (x ∷ h) = more m members (x ∷ h)
      in let short : sum_of (m ∷ members) h ≡ sum_by f (own_of m.seat h) + sum_of members h = more m members h
      in elim is [
        | inl same ↦
            let first : sum_by f (own_of m.seat (x ∷ h)) ≡ f x + sum_by f (own_of m.seat h) = here m.seat x h same
            in let others : sum_of members (x ∷ h) ≡ sum_of members h = of_none members x h (λ again. distinct.0 (subst N same again))
            in omega (arith, long, short, first, others)
        | inr later ↦
            let first : sum_by f (own_of m.seat (x ∷ h)) ≡ sum_by f (own_of m.seat h) = elsewhere m.seat x h
            (λ same. distinct.0 (subst N same later))
            in let others : sum_of members (x ∷ h) ≡ f x + sum_of members h = of_one members x h distinct.1 later
            in omega (arith, long, short, first, others)
      ]

  all_of : (members : List (Member D)) (h : List (Entry D)) → AreDistinct members
      → AllByRecursion (λ (x : Entry D). IsAmong x.seat members) h → sum_of members h ≡ sum_by f h
  all_of members [] distinct each = none members
  all_of members (x ∷ h) distinct each =
      let first : sum_of members (x ∷ h) ≡ f x + sum_of members h = of_one members x h distinct each.0
      in let others : sum_of members h ≡ sum_by f h = all_of members h distinct each.1
      in let whole : sum_by f (x ∷ h) ≡ f x + sum_by f h = sum_by-cons f x h
      in omega (arith, whole, first, others)

  pub sum_of_all : (members : List (Member D)) (h : List (Entry D)) → AreExact members h → AreDistinct members
      → AllByRecursion (λ (x : Entry D). IsAmong x.seat members) h → sum_by f h ≡ own_sum members
  sum_of_all members h exact distinct each = sym (exact_sum members h exact ∙ all_of members h distinct each)
