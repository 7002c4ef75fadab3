-- A history and the views of it agree when a seat takes in another.
use Rattle.std.proofs.Common.{◌≡◌, ◌≢◌, ℕ, ◌+◌, ◌<◌, ◌⊎◌, Some, List, set, length, refl, sym, ap, subst}
use Rattle.std.proofs.Common.{◌∙◌, inl, inr, arith, length-set}
use Rattle.std.specs.List.{sum_by}
use mathlib.Core.Option.{some}
use mathlib.Core.List.{IsPrefix}
use lib.ListN.{get_elem?}
use Rattle.atomic_table.proofs.Lists.{at_set, set_else, set_here}
use Rattle.alog_lane.specs.declared.seat.TheConstants.{ALL_PARTS}
use Rattle.alog_lane.specs.Seats.{Entry, Member, own_of, members_of, IsAmong, AreDistinct, AreExact}
use Rattle.alog_lane.specs.Roster.{Stage, Idle, Joined, Sight, members_by, members_at, parts_of, Agrees}
use Rattle.alog_lane.specs.Roster.{taking_in, gone}
use Rattle.alog_lane.proofs.SharedLists.{same_or_not, inside, one_value, each_append, sum_changed}
use Rattle.alog_lane.proofs.SharedLists.{among_first, among_second}
use Rattle.alog_lane.proofs.SharedLists.{among_either, distinct_append}

module _ {K D W : Type 0} where
  -- a seat takes in another, with its parts and members
  module _ (key : K) (h : List (Entry D)) (views : List
      (Sight K D W)) (a o : ℕ) (v w : Sight K D W) (agrees : Agrees key h views) (at : get_elem? views a ≡ some v)
      (at_other : get_elem? views o ≡ some w) (apart : o ≢ a) (idle : v.stage ≡ Idle) (other_idle : w.stage ≡ Idle)
      (some_parts : 0 < v.known.parts) where
    abbrev both : Sight K D W
    both = taking_in v w

    abbrev pub after_join : List (Sight K D W)
    after_join = set (set views a both) o gone

    one_len : length (set views a both) ≡ length views
    one_len = length-set views a both

    all_len : length after_join ≡ length (set views a both)
    all_len = length-set (set views a both) o gone

    joined : get_elem? after_join a ≡ some both
    joined = set_else (set views a both) o a gone (λ e. apart (sym e)) ∙ set_here views a both (inside views a v at)

    unchanged : (b : ℕ) (u : Sight K D W) → b ≢ a → b ≢ o → get_elem? views b ≡ some u → get_elem? after_join b ≡ some u
    unchanged b u not_a not_o e = set_else (set views a both) o b gone not_o ∙ set_else views a b both not_a ∙ e

    cases : (P : ℕ → Sight K D W → Type 0) → P a both → P o gone
        → ((b : ℕ) (u : Sight K D W) → b ≢ a → b ≢ o → get_elem? views b ≡ some u → P b u) → (b : ℕ) (u : Sight K D W)
        → get_elem? after_join b ≡ some u → P b u
    cases P mine its others b u e =
        elim (at_set (set views a both) o b gone u e) [
          | inl same ↦ let Q : ℕ → Type 0 = λ z. P z u in let R : Sight K D W → Type 0 = λ z. P o z
              in subst Q (sym same.0) (subst R same.1 its)
          | inr other ↦
              elim (at_set views a b both u other.1) [
                | inl same ↦ let Q : ℕ → Type 0 = λ z. P z u in let R : Sight K D W → Type 0 = λ z. P a z
                    in subst Q (sym same.0) (subst R same.1 mine)
                | inr old ↦ others b u old.0 other.0 old.1
              ]
        ]

    first_members : members_at a v ≡ members_of v.known
    first_members = ap (λ (s : Stage D W). members_by a v.known s) idle

    second_members : members_at o w ≡ members_of w.known
    second_members = ap (λ (s : Stage D W). members_by o w.known s) other_idle

    in_first : (c : ℕ) → IsAmong c (members_of v.known) → IsAmong c (members_at a v)
    in_first c is = let P : List (Member D) → Type 0 = λ l. IsAmong c l in subst P (sym first_members) is

    in_second : (c : ℕ) → IsAmong c (members_of w.known) → IsAmong c (members_at o w)
    in_second c is = let P : List (Member D) → Type 0 = λ l. IsAmong c l in subst P (sym second_members) is

    -- the members of the joined seat are those of the two
    split_members : (c : ℕ) → IsAmong c (members_at a both) → IsAmong c (members_of v.known) ⊎ IsAmong c (members_of w.known)
    split_members c is = among_either c (members_of v.known) (members_of w.known) is

    from_first : (c : ℕ) → IsAmong c (members_of v.known) → IsAmong c (members_at a both)
    from_first c is = among_first c (members_of v.known) (members_of w.known) is

    from_second : (c : ℕ) → IsAmong c (members_of w.known) → IsAmong c (members_at a both)
    from_second c is = among_second c (members_of v.known) (members_of w.known) is

    -- whose a member was before the join
    owner : (b : ℕ) (u : Sight K D W) → get_elem? after_join b ≡ some u → (c : ℕ) → IsAmong c (members_at b u) → (j : ℕ)
        × (x : Sight K D W) × (get_elem? views j ≡ some x) × IsAmong c (members_at j x) × ((b ≡ j) ⊎ ((b ≡ a) × (j ≡ o)))
    owner =
        cases (λ b u. (c : ℕ) → IsAmong c (members_at b u) → (j : ℕ) × (x : Sight K D W) × (get_elem? views j ≡ some x)
        × IsAmong c (members_at j x) × ((b ≡ j) ⊎ ((b ≡ a) × (j ≡ o))))
        (λ c is. elim (split_members c is) [
          | inl first ↦ (a, v, at, in_first c first, inl refl)
          | inr second ↦ (
            o,
            w,
            at_other,
            in_second c second,
            inr (refl, refl),
          )
        ])
        (λ c is. absurd is)
        (λ b u _ _ g c is. (b, u, g, is, inl refl))

    -- and whose it is after it
    heir : (c j : ℕ) (x : Sight K D W) → get_elem? views j ≡ some x → IsAmong c (members_at j x) → (b : ℕ) × (u : Sight K D W)
        × (get_elem? after_join b ≡ some u) × IsAmong c (members_at b u)
    heir c j x g is =
        elim (same_or_not j a) [
          | inl same ↦
              let G : ℕ → Type 0 = λ i. get_elem? views i ≡ some x
              in let one : x ≡ v = one_value views a x v (subst G same g) at
              in let P : Sight K D W → Type 0 = λ z. IsAmong c (members_at a z)
              in let Q : ℕ → Type 0 = λ i. IsAmong c (members_at i x)
              in let R : List (Member D) → Type 0 = λ l. IsAmong c l
              in (a, both, joined, from_first c (subst R first_members (subst P one (subst Q same is))))
          | inr not_a ↦
              elim (same_or_not j o) [
                | inl same ↦
                    let G : ℕ → Type 0 = λ i. get_elem? views i ≡ some x
                    in let one : x ≡ w = one_value views o x w (subst G same g) at_other
                    in let P : Sight K D W → Type 0 = λ z. IsAmong c (members_at o z)
                    in let Q : ℕ → Type 0 = λ i. IsAmong c (members_at i x)
                    in let R : List (Member D) → Type 0 = λ l. IsAmong c l
                    in (a, both, joined, from_second c (subst R second_members (subst P one (subst Q same is))))
                | inr not_o ↦ (j, x, unchanged j x not_a not_o g, is)
              ]
        ]

    cross : (c : ℕ) → IsAmong c (members_of v.known) → ¬ IsAmong c (members_of w.known)
    cross c first second = apart (agrees.once a v at o w at_other c (in_first c first) (in_second c second))

    pub agrees_join : Agrees key h after_join
    agrees_join = record {
      keyed = cases (λ b u. 0 < u.known.parts → u.key ≡ Some key) (λ _. agrees.keyed a v at some_parts) (λ none. absurd
          (omega arith)) (λ b u _ _ g. agrees.keyed b u g);
      seen = cases (λ b u. IsPrefix u.known.seen h) (agrees.seen a v at) (h, refl) (λ b u _ _ g. agrees.seen b u g);
      other =
          cases (λ b u. (s : List (Entry D)) → u.stage ≡ Joined s → IsPrefix s h)
          (λ s is. let same : ◌≡◌ {A = Stage D W} (Joined w.known.seen) (Joined s) = is in let one : w.known.seen ≡ s = cc
          in let P : List (Entry D) → Type 0 = λ z. IsPrefix z h in subst P one (agrees.seen o w at_other))
          (λ s is. let wrong : ◌≡◌ {A = Stage D W} (gone {K = K} {D = D} {W = W}).stage (Joined s) = is in cc)
          (λ b u _ _ g. agrees.other b u g);
      exact =
          cases (λ b u. AreExact (members_at b u) h)
          (let P : List (Member D) → Type 0 = λ l. AreExact l h
          in each_append (λ (c : Member D). c.own ≡ own_of c.seat h) (members_of v.known) (members_of w.known)
          (subst P first_members (agrees.exact a v at)) (subst P second_members (agrees.exact o w at_other)))
          tt
          (λ b u _ _ g. agrees.exact b u g);
      distinct =
          cases (λ b u. AreDistinct (members_at b u))
          (let P : List (Member D) → Type 0 = λ l. AreDistinct l
          in distinct_append (members_of v.known) (members_of w.known) (subst P first_members
          (agrees.distinct a v at)) (subst P second_members (agrees.distinct o w at_other)) cross)
          tt
          (λ b u _ _ g. agrees.distinct b u g);
      once =
          λ b u e c x g k in_u in_x.
          let p = owner b u e k in_u
          in let q = owner c x g k in_x
          in let same : q.0 ≡ p.0 = agrees.once p.0 p.1 p.2 q.0 q.1 q.2 k p.3 q.3
          in elim p.4 [
            | inl p_is ↦
                elim q.4 [
                  | inl q_is ↦ q_is ∙ same ∙ sym p_is
                  | inr q_is ↦ absurd (let is_o : b ≡ o = p_is ∙ sym same ∙ q_is.1 in let H : ℕ
                      → Type 0 = λ z. get_elem? after_join z ≡ some u
                      in let gone_here : u ≡ gone = one_value after_join o u gone (subst H is_o e) (set_here
                      (set views a both) o gone (let low : o < length views = inside views o w at_other
                      in let l : length (set views a both) ≡ length views = one_len in omega arith)) in let M : Sight K D W
                      → Type 0 = λ z. IsAmong k (members_at b z) in subst M gone_here in_u)
                ]
            | inr p_is ↦
                elim q.4 [
                  | inl q_is ↦ absurd (let is_o : c ≡ o = q_is ∙ same ∙ p_is.1 in let H : ℕ
                      → Type 0 = λ z. get_elem? after_join z ≡ some x
                      in let gone_here : x ≡ gone = one_value after_join o x gone (subst H is_o g) (set_here
                      (set views a both) o gone (let low : o < length views = inside views o w at_other
                      in let l : length (set views a both) ≡ length views = one_len in omega arith)) in let M : Sight K D W
                      → Type 0 = λ z. IsAmong k (members_at c z) in subst M gone_here in_x)
                  | inr q_is ↦ q_is.0 ∙ sym p_is.0
                ]
          ];
      made = λ c some_own. let by = agrees.made c some_own in heir c by.0 by.1 by.2 by.3;
      numbered =
          λ b u e c is.
          let p = owner b u e c is
          in let low : c < length views = agrees.numbered p.0 p.1 p.2 c p.3
          in let l : length after_join ≡ length (set views a both) = all_len
          in let m : length (set views a both) ≡ length views = one_len
          in omega arith;
      parted = cases (λ b u. (c : ℕ) → IsAmong c (members_at b u)
          → 0 < u.known.parts) (λ c _. omega arith) (λ c is. absurd is) (λ b u _ _ g. agrees.parted b u g);
      whole =
          let changed : sum_by parts_of (set views a both) + parts_of v ≡ sum_by parts_of views + parts_of both = sum_changed
          parts_of views a v both at
          in let then : sum_by parts_of after_join + parts_of w ≡ sum_by parts_of (set views a both) + parts_of
          (gone {K = K} {D = D} {W = W}) = sum_changed parts_of (set views a both) o w gone (set_else views a o both apart
          ∙ at_other)
          in let sum : sum_by parts_of views ≡ ALL_PARTS = agrees.whole
          in omega arith;
    }
