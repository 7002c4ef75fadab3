-- What a history weighs is what its members' own entries weigh together, where each entry is a member's.
use Rattle.std.proofs.Common.{◌≡◌, ◌≢◌, ℕ, ◌+◌, cond, List, [], ◌∷◌, ◌++◌, refl, sym, ap, subst, ◌∙◌, inl, inr, arith}
use Rattle.std.specs.List.{AllByRecursion, sum_by}
use Rattle.std.proofs.lemmas.List.Sums.{sum_by-cons}
use Rattle.alog_core.specs.Accounts.{put_by, got_by, claims, takes, weigh, claimed, taken, listed}
use Rattle.alog_core.specs.History.{Entry, own_of, left_by}
use Rattle.alog_core.specs.Queue.{start}
use Rattle.alog_core.proofs.SharedAccounts.{weigh-append, accounts_balance}
use Rattle.alog_core.proofs.SharedCells.{on_test}
use Rattle.alog_ring.specs.Known.{Member, Known, members_of, IsAmong, AreDistinct}
use Rattle.alog_ring.specs.Made.{AreExact}
use Rattle.alog_ring.specs.Share.{IsWhole}
use Rattle.alog_pool.proofs.SharedMoves.{claims-append, takes-append}
use Rattle.alog_pool.specs.Whole.{claimed_by, taken_by, MembersBalance}

module _ {T N : Type 0} (f : Entry T N → ℕ) where
  own_sum : List (Member T N) → ℕ
  own_sum members = sum_by (λ (m : Member T N). sum_by f m.own) members

  -- the same of each member's entries of a history
  sum_of : List (Member T N) → List (Entry T N) → ℕ
  sum_of members h = sum_by (λ (m : Member T N). sum_by f (own_of m.actor h)) members

  more_own : (m : Member T N) (members : List (Member T N)) → own_sum (m ∷ members) ≡ sum_by f m.own + own_sum members
  unfolding own_sum
  more_own m members = sum_by-cons (λ (c : Member T N). sum_by f c.own) m members

  more : (m : Member T N) (members : List (Member T N)) (h : List (Entry T N))
      → sum_of (m ∷ members) h ≡ sum_by f (own_of m.actor h) + sum_of members h
  unfolding sum_of
  more m members h = sum_by-cons (λ (c : Member T N). sum_by f (own_of c.actor h)) m members

  no_member : (h : List (Entry T N)) → sum_of [] h ≡ 0
  unfolding sum_of
  no_member h = refl

  no_own : own_sum [] ≡ 0
  unfolding own_sum
  no_own = refl

  exact_sum : (members : List (Member T N)) (h : List (Entry T N)) → AreExact members h → own_sum members ≡ sum_of members h
  exact_sum [] h exact = no_own ∙ sym (no_member h)
  exact_sum (m ∷ members) h exact =
      let first : sum_by f m.own ≡ sum_by f (own_of m.actor h) = ap (λ (l : List (Entry T N)). sum_by f l) exact.0 in
      omega (arith, more_own m members, more m members h, first, exact_sum members h exact.1)

  none : (members : List (Member T N)) → sum_of members [] ≡ 0
  none [] = no_member []
  none (m ∷ members) = omega (arith, more m members [], none members)

  -- one more entry is one actor's, and no other's
  here : (a : ℕ) (x : Entry T N) (h : List (Entry T N)) → x.actor ≡ a → sum_by f (own_of a (x ∷ h)) ≡ f x + sum_by f (own_of a h)
  here a x h same = on_test (λ b. sum_by f (cond b (x ∷ own_of a h) (own_of a h)) ≡ f x + sum_by f (own_of a h)) x.actor a
      (λ _. sum_by-cons f x (own_of a h)) (λ apart. absurd (apart same))

  elsewhere : (a : ℕ) (x : Entry T N) (h : List (Entry T N)) → x.actor ≢ a → sum_by f (own_of a (x ∷ h)) ≡ sum_by f (own_of a h)
  elsewhere a x h apart = on_test (λ b. sum_by f (cond b (x ∷ own_of a h) (own_of a h)) ≡ sum_by f (own_of a h)) x.actor a
      (λ same. absurd (apart same)) (λ _. refl)

  of_none : (members : List (Member T N)) (x : Entry T N) (h : List (Entry T N)) → ¬ IsAmong x.actor members
      → sum_of members (x ∷ h) ≡ sum_of members h
  of_none [] x h apart = no_member (x ∷ h) ∙ sym (no_member h)
  of_none (m ∷ members) x h apart =
      omega (
        arith,
        more m members (x ∷ h),
        more m members h,
        elsewhere m.actor x h (λ e. apart (inl e)),
        of_none members x h (λ is. apart (inr is)),
      )

  of_one : (members : List (Member T N)) (x : Entry T N) (h : List (Entry T N)) → AreDistinct members → IsAmong x.actor members
      → sum_of members (x ∷ h) ≡ f x + sum_of members h
  of_one [] x h distinct is = absurd is
  of_one (m ∷ members) x h distinct is =
      let A : ℕ → Type 0 = λ z. IsAmong z members in
      elim is [
        | inl same ↦
            omega (
              arith,
              more m members (x ∷ h),
              more m members h,
              here m.actor x h same,
              of_none members x h (λ again. distinct.0 (subst A same again)),
            )
        | inr later ↦
            omega (
              arith,
              more m members (x ∷ h),
              more m members h,
              elsewhere m.actor x h (λ same. distinct.0 (subst A same later)),
              of_one members x h distinct.1 later,
            )
      ]

  all_of : (members : List (Member T N)) (h : List (Entry T N)) → AreDistinct members
      → AllByRecursion (λ (x : Entry T N). IsAmong x.actor members) h → sum_of members h ≡ sum_by f h
  all_of members [] distinct each = none members
  all_of members (x ∷ h) distinct each =
      let whole : sum_by f (x ∷ h) ≡ f x + sum_by f h = sum_by-cons f x h in
      omega (arith, whole, of_one members x h distinct each.0, all_of members h distinct each.1)

  pub sum_of_actors : (members : List (Member T N)) (h : List (Entry T N)) → AreDistinct members
      → AllByRecursion (λ (x : Entry T N). IsAmong x.actor members) h
      → sum_by f h ≡ sum_by (λ (m : Member T N). sum_by f (own_of m.actor h)) members
  unfolding sum_of
  sum_of_actors members h distinct each = sym (all_of members h distinct each)

  sum_of_all : (members : List (Member T N)) (h : List (Entry T N)) → AreExact members h → AreDistinct members
      → AllByRecursion (λ (x : Entry T N). IsAmong x.actor members) h
      → sum_by f h ≡ sum_by (λ (m : Member T N). sum_by f m.own) members
  unfolding own_sum
  sum_of_all members h exact distinct each = sym (exact_sum members h exact ∙ all_of members h distinct each)

module _ {T N : Type 0} (w : ℕ → T → ℕ) where
  -- of two histories, one after the other
  pub claimed-append : (h g : List (Entry T N)) → claimed w (h ++ g) ≡ claimed w h + claimed w g
  claimed-append h g = ap (λ (ps : List (ℕ × T)). weigh w ps) (claims-append h g) ∙ weigh-append w (claims h) (claims g)

  pub taken-append : (h g : List (Entry T N)) → taken w (h ++ g) ≡ taken w h + taken w g
  taken-append h g = ap (λ (ps : List (ℕ × T)). weigh w ps) (takes-append h g) ∙ weigh-append w (takes h) (takes g)

  claim : Entry T N → ℕ
  claim x = weigh w (put_by x.event)

  take : Entry T N → ℕ
  take x = weigh w (got_by x.event)

  claimed_sum : (h : List (Entry T N)) → claimed w h ≡ sum_by claim h
  unfolding claim
  claimed_sum [] = refl
  claimed_sum (x ∷ h) =
      let one : sum_by claim (x ∷ h) ≡ claim x + sum_by claim h = sum_by-cons claim x h in
      weigh-append w (put_by x.event) (claims h) ∙ ap (λ n. weigh w (put_by x.event) + n) (claimed_sum h) ∙ sym one

  taken_sum : (h : List (Entry T N)) → taken w h ≡ sum_by take h
  unfolding take
  taken_sum [] = refl
  taken_sum (x ∷ h) =
      let one : sum_by take (x ∷ h) ≡ take x + sum_by take h = sum_by-cons take x h in
      weigh-append w (got_by x.event) (takes h) ∙ ap (λ n. weigh w (got_by x.event) + n) (taken_sum h) ∙ sym one

  claimed_sums : (entries : Member T N → List (Entry T N)) (members : List (Member T N))
      → sum_by (λ (m : Member T N). sum_by claim (entries m)) members ≡ sum_by (λ (m : Member T N). claimed w (entries m)) members
  claimed_sums entries [] = refl
  claimed_sums entries (m ∷ members) =
      sum_by-cons (λ (c : Member T N). sum_by claim (entries c)) m members
      ∙ (λ i. sym (claimed_sum (entries m)) i + claimed_sums entries members i)
      ∙ sym (sum_by-cons (λ (c : Member T N). claimed w (entries c)) m members)

  taken_sums : (members : List (Member T N)) → sum_by (λ (m : Member T N). sum_by take m.own) members
      ≡ sum_by (λ (m : Member T N). taken w m.own) members
  taken_sums [] = refl
  taken_sums (m ∷ members) =
      sum_by-cons (λ (c : Member T N). sum_by take c.own) m members
      ∙ (λ i. sym (taken_sum m.own) i + taken_sums members i)
      ∙ sym (sum_by-cons (λ (c : Member T N). taken w c.own) m members)

  -- what a history claims, where each entry is by one of these members
  pub claimed_by_actors : (members : List (Member T N)) (h : List (Entry T N)) → AreDistinct members
      → AllByRecursion (λ (x : Entry T N). IsAmong x.actor members) h
      → claimed w h ≡ sum_by (λ (m : Member T N). claimed w (own_of m.actor h)) members
  claimed_by_actors members h distinct each =
      claimed_sum h ∙ sum_of_actors claim members h distinct each ∙ claimed_sums (λ (m : Member T N). own_of m.actor h) members

  pub whole_claimed : (k : Known T N) → IsWhole k → claimed w k.seen ≡ claimed_by w k
  whole_claimed k whole =
      claimed_sum k.seen
      ∙ sum_of_all claim (members_of k) k.seen (whole.faithful.own, whole.faithful.joined) whole.faithful.distinct whole.actors
      ∙ claimed_sums (λ (m : Member T N). m.own) (members_of k)

  pub whole_taken : (k : Known T N) → IsWhole k → taken w k.seen ≡ taken_by w k
  whole_taken k whole =
      taken_sum k.seen
      ∙ sum_of_all take (members_of k) k.seen (whole.faithful.own, whole.faithful.joined) whole.faithful.distinct whole.actors
      ∙ taken_sums (members_of k)

pub members_balance : (T N : Type 0) → MembersBalance T N
members_balance T N k w whole =
    sym (whole_claimed w k whole) ∙ accounts_balance T N k.places k.first k.seen w whole.faithful.legal
    ∙ ap (λ n. n + listed w (left_by (start k.first) k.seen).cells) (whole_taken w k whole)
