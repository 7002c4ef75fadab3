-- A history and the views of it agree when a seat is cut in two.
use Rattle.std.proofs.Common.{◌≡◌, ◌≢◌, ℕ, ◌+◌, ◌<◌, ◌⊎◌, Some, List, [], ◌∷◌, ◌++◌, set, length, refl, sym, ap, subst}
use Rattle.std.proofs.Common.{◌∙◌, inl, inr, arith, length-set}
use Rattle.std.proofs.lemmas.List.{length-append}
use Rattle.std.specs.List.{sum_by}
use mathlib.Core.Option.{some}
use mathlib.Core.List.{IsPrefix}
use lib.ListN.{get_elem?}
use Rattle.atomic_table.proofs.Lists.{at_set, set_else, set_here, at_longer}
use Rattle.alog_lane.specs.declared.seat.TheConstants.{ALL_PARTS}
use Rattle.alog_lane.specs.Seats.{Entry, Member, own_of, members_of, IsAmong, AreDistinct, AreExact}
use Rattle.alog_lane.specs.Roster.{Stage, Idle, Fresh, Joined, Sight, members_by, members_at, parts_of, Agrees, kept_part}
use Rattle.alog_lane.specs.Roster.{given_part}
use Rattle.alog_lane.proofs.SharedLists.{same_or_not, inside, one_value, at_end, sum_changed}
use Rattle.alog_lane.proofs.SharedLists.{sum_with_last}
use Rattle.alog_lane.proofs.SharedRosters.{empty_or_not}

module _ {K D W : Type 0} where
  -- a seat is cut in two, and the new seat has made nothing yet
  module _ (key : K) (h : List (Entry D)) (views : List
      (Sight K D W)) (a parts : ℕ) (v : Sight K D W) (agrees : Agrees key h views) (at : get_elem? views a ≡ some v)
      (idle : v.stage ≡ Idle) (fewer : parts < v.known.parts) (some_parts : 0 < parts) where
    abbrev left : Sight K D W
    left = kept_part parts v

    abbrev right : Sight K D W
    right = given_part parts v

    abbrev pub after_split : List (Sight K D W)
    after_split = set views a left ++ right ∷ []

    len : length (set views a left) ≡ length views
    len = length-set views a left

    kept : get_elem? after_split a ≡ some left
    kept = at_longer (set views a left) (right ∷ []) a left (set_here views a left (inside views a v at))

    elsewhere : (b : ℕ) (u : Sight K D W) → b ≢ a → get_elem? views b ≡ some u → get_elem? after_split b ≡ some u
    elsewhere b u apart e = at_longer (set views a left) (right ∷ []) b u (set_else views a b left apart ∙ e)

    which : (P : ℕ → Sight K D W → Type 0) → P a left → P (length views) right
        → ((b : ℕ) (u : Sight K D W) → b ≢ a → get_elem? views b ≡ some u → P b u) → (b : ℕ) (u : Sight K D W)
        → get_elem? after_split b ≡ some u → P b u
    which P mine its others b u e =
        elim (at_end (set views a left) right u b e) [
          | inl old ↦
              elim (at_set views a b left u old) [
                | inl same ↦ let Q : ℕ → Type 0 = λ z. P z u in let R : Sight K D W → Type 0 = λ z. P a z
                    in subst Q (sym same.0) (subst R same.1 mine)
                | inr other ↦ others b u other.0 other.1
              ]
          | inr last ↦ let Q : ℕ → Type 0 = λ z. P z u in let R : Sight K D W → Type 0 = λ z. P (length views) z
              in subst Q (sym (last.0 ∙ len)) (subst R last.1 its)
        ]

    -- the members that the seat knew
    mine : members_at a v ≡ members_of v.known
    mine = ap (λ (s : Stage D W). members_by a v.known s) idle

    was : (c : ℕ) → IsAmong c (members_of v.known) → IsAmong c (members_at a v)
    was c is = let P : List (Member D) → Type 0 = λ l. IsAmong c l in subst P (sym mine) is

    none_made : own_of (length views) h ≡ []
    none_made = elim (empty_or_not (own_of (length views) h)) [
      | inl none ↦ none
      | inr some_own ↦
          (let by = agrees.made (length views) some_own
          in let low : length views < length views = agrees.numbered by.0 by.1 by.2 (length views) by.3 in absurd (omega arith))
    ]

    -- a view after the split: one before it of the same members, or the new one
    origin : (b : ℕ) (u : Sight K D W) → get_elem? after_split b ≡ some u
        → ((o : Sight K D W) × (get_elem? views b ≡ some o) × ((c : ℕ) → IsAmong c (members_at b u) → IsAmong c (members_at b o)))
        ⊎ ((b ≡ length views) × ((c : ℕ) → IsAmong c (members_at b u) → c ≡ length views))
    origin =
        which (λ b u. ((o : Sight K D W) × (get_elem? views b ≡ some o)
        × ((c : ℕ) → IsAmong c (members_at b u) → IsAmong c (members_at b o)))
        ⊎ ((b ≡ length views) × ((c : ℕ) → IsAmong c (members_at b u) → c ≡ length views)))
        (inl (v, at, was))
        (inr (refl, λ c is. elim is [ inl e ↦ e | inr not_so ↦ absurd not_so ]))
        (λ b u _ g. inl (u, g, λ c is. is))

    pub agrees_split : Agrees key h after_split
    agrees_split = record {
      keyed = which (λ b u. 0 < u.known.parts → u.key ≡ Some key) (λ _. agrees.keyed a v at
          (omega arith)) (λ _. agrees.keyed a v at (omega arith)) (λ b u _ g. agrees.keyed b u g);
      seen = which (λ b u. IsPrefix u.known.seen h) (agrees.seen a v at) (agrees.seen a v at) (λ b u _ g. agrees.seen b u g);
      other =
          which (λ b u. (s : List (Entry D)) → u.stage ≡ Joined s → IsPrefix s h)
          (λ s is. let wrong : ◌≡◌ {A = Stage D W} Idle (Joined s) = is in cc)
          (λ s is. let wrong : ◌≡◌ {A = Stage D W} Fresh (Joined s) = is in cc)
          (λ b u _ g. agrees.other b u g);
      exact = which (λ b u. AreExact (members_at b u) h) (let P : List (Member D) → Type 0 = λ l. AreExact l h
          in subst P mine (agrees.exact a v at)) (sym none_made, tt) (λ b u _ g. agrees.exact b u g);
      distinct = which (λ b u. AreDistinct (members_at b u)) (let P : List (Member D) → Type 0 = λ l. AreDistinct l
          in subst P mine (agrees.distinct a v at)) ((λ is. is), tt) (λ b u _ g. agrees.distinct b u g);
      once =
          λ b u e c x g k in_u in_x.
          elim (origin b u e) [
            | inl p ↦
                elim (origin c x g) [
                  | inl q ↦ agrees.once b p.0 p.1 c q.0 q.1 k (p.2 k in_u) (q.2 k in_x)
                  | inr q ↦ let low : k < length views = agrees.numbered b p.0 p.1 k (p.2 k in_u)
                      in let is : k ≡ length views = q.1 k in_x in absurd (omega arith)
                ]
            | inr p ↦
                elim (origin c x g) [
                  | inl q ↦ let low : k < length views = agrees.numbered c q.0 q.1 k (q.2 k in_x)
                      in let is : k ≡ length views = p.1 k in_u in absurd (omega arith)
                  | inr q ↦ q.0 ∙ sym p.0
                ]
          ];
      made =
          λ c some_own.
          let by = agrees.made c some_own
          in elim (same_or_not by.0 a) [
            | inl same ↦
                let G : ℕ → Type 0 = λ i. get_elem? views i ≡ some by.1
                in let one : by.1 ≡ v = one_value views a by.1 v (subst G same by.2) at
                in let P : Sight K D W → Type 0 = λ z. IsAmong c (members_at a z)
                in let Q : ℕ → Type 0 = λ i. IsAmong c (members_at i by.1)
                in let R : List (Member D) → Type 0 = λ l. IsAmong c l
                in (a, left, kept, subst R mine (subst P one (subst Q same by.3)))
            | inr other ↦ (by.0, by.1, elsewhere by.0 by.1 other by.2, by.3)
          ];
      numbered =
          λ b u e c is.
          let long : length after_split ≡ length (set views a left) + length (right ∷ []) = length-append (set views a left) (right ∷ [])
          in let one : length (right ∷ []) ≡ 1 = refl
          in let same : length (set views a left) ≡ length views = len
          in elim (origin b u e) [
            | inl p ↦ let low : c < length views = agrees.numbered b p.0 p.1 c (p.2 c is) in omega arith
            | inr p ↦ let last : c ≡ length views = p.1 c is in omega arith
          ];
      parted = which (λ b u. (c : ℕ) → IsAmong c (members_at b u)
          → 0 < u.known.parts) (λ c is. omega arith) (λ c is. some_parts) (λ b u _ g. agrees.parted b u g);
      whole =
          let with_new : sum_by parts_of after_split ≡ sum_by parts_of (set views a left) + parts_of right = sum_with_last parts_of
          (set views a left) right
          in let changed : sum_by parts_of (set views a left) + parts_of v ≡ sum_by parts_of views + parts_of left = sum_changed
          parts_of views a v left at
          in let sum : sum_by parts_of views ≡ ALL_PARTS = agrees.whole
          in omega arith;
    }
