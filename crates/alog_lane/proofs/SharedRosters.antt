-- How a history and the views of it go on agreeing as a seat steps, and what a seat with all parts knows.
use Rattle.std.proofs.Common.{◌≡◌, ◌≢◌, ℕ, ◌+◌, ◌<◌, ◌≤◌, ◌⊎◌, cond, Some, List, [], ◌∷◌, ◌++◌, set, length, refl, sym, ap, subst}
use Rattle.std.proofs.Common.{◌∙◌, inl, inr, arith, length-set}
use Rattle.std.proofs.lemmas.List.{append-nil}
use Rattle.std.specs.List.{AllByRecursion, sum_by}
use mathlib.Core.Option.{some, some-ne-none}
use mathlib.Core.List.{IsPrefix}
use lib.ListN.{get_elem?}
use Rattle.atomic_table.proofs.Lists.{at_set, set_else, set_here}
use Rattle.alog_lane.specs.declared.seat.TheConstants.{ALL_PARTS}
use Rattle.alog_lane.specs.Seats.{Entry, Member, own_of, IsAmong, AreDistinct, AreExact}
use Rattle.alog_lane.specs.Roster.{Stage, Idle, Joined, Sight, members_at, parts_of, Agrees}
use Rattle.alog_lane.specs.Roster.{gone, first_sight}
use Rattle.alog_lane.proofs.SharedLists.{same_or_not, on_test, inside, one_value, at_end, prefix_longer, sum_changed}
use Rattle.alog_lane.proofs.SharedLists.{sum_of_two, own_of-append, all_seats, none_after}
use Rattle.alog_lane.proofs.SharedLists.{exact_apart}

pub empty_or_not : {A : Type 0} (l : List A) → (l ≡ []) ⊎ (l ≢ [])
empty_or_not [] = inl refl
empty_or_not (x ∷ xs) = inr (λ e. cc)

second_empty : {A : Type 0} (l m : List A) → l ++ m ≡ [] → m ≡ []
second_empty [] m e = e
second_empty (x ∷ l) m e = cc

module _ {D : Type 0} where
  none_of_members : (l : List (Member D)) (seen more : List (Entry D)) → AreExact l seen → AreExact l (seen ++ more) → (c : ℕ)
      → IsAmong c l → own_of c more ≡ []
  none_of_members [] seen more first both c is = absurd is
  none_of_members (m ∷ l) seen more first both c is =
      elim is [
        | inl same ↦ let P : ℕ → Type 0 = λ z. own_of z more ≡ [] in subst P (sym same) (none_after m.seat m.own seen more first.0 both.0)
        | inr others ↦ none_of_members l seen more first.1 both.1 c others
      ]

  -- a history of which each seat has no entries is empty
  nobody_made : (h : List (Entry D)) → ((c : ℕ) → own_of c h ≢ [] → ⊥) → h ≡ []
  nobody_made [] none = refl
  nobody_made (x ∷ h) none = absurd (none x.seat
      (λ empty. let here : own_of x.seat (x ∷ h) ≡ x ∷ own_of x.seat h = on_test
      (λ t. cond t (x ∷ own_of x.seat h) (own_of x.seat h) ≡ x ∷ own_of x.seat h) x.seat x.seat (λ _. refl) (λ d. absurd (d refl))
      in let wrong : x ∷ own_of x.seat h ≡ [] = sym here ∙ empty in cc))

module _ {K D W : Type 0} where
  -- What a step of the seat a owes, which adds these entries to the history and leaves it with the view w.
  pub record IsStep (h more : List (Entry D)) (a : ℕ) (v w : Sight K D W) : Type 0 where
    pub key : w.key ≡ v.key
    pub parts : w.known.parts ≡ v.known.parts
    pub back : (c : ℕ) → IsAmong c (members_at a w) → IsAmong c (members_at a v)
    pub forth : (c : ℕ) → IsAmong c (members_at a v) → IsAmong c (members_at a w)
    pub seen : IsPrefix w.known.seen (h ++ more)
    pub other : (s : List (Entry D)) → w.stage ≡ Joined s → IsPrefix s (h ++ more)
    pub exact : AreExact (members_at a w) (h ++ more)
    pub distinct : AreDistinct (members_at a w)
    pub makers : (c : ℕ) → own_of c more ≢ [] → IsAmong c (members_at a v)

  module _ (key : K) (h more : List (Entry D)) (views : List
      (Sight K D W)) (a : ℕ) (v w : Sight K D W) (agrees : Agrees key h views) (at : get_elem? views a ≡ some v)
      (step : IsStep h more a v w) where
    here : get_elem? (set views a w) a ≡ some w
    here = set_here views a w (inside views a v at)

    -- each view after the step was one before it, of the same members
    came : (b : ℕ) (u : Sight K D W) → get_elem? (set views a w) b ≡ some u → (o : Sight K D W) × (get_elem? views b ≡ some o)
        × (u.known.parts ≡ o.known.parts) × ((c : ℕ) → IsAmong c (members_at b u) → IsAmong c (members_at b o))
    came b u e =
        elim (at_set views a b w u e) [
          | inl same ↦
              let G : ℕ → Type 0 = λ z. get_elem? views z ≡ some v
              in let P : Sight K D W → Type 0 = λ z. z.known.parts ≡ v.known.parts
              in let Q : ℕ → Sight K D W → Type 0 = λ j z. (c : ℕ) → IsAmong c (members_at j z) → IsAmong c (members_at j v)
              in let R : ℕ → Type 0 = λ j. Q j w
              in (
                v,
                subst G (sym same.0) at,
                subst P same.1 step.parts,
                subst (λ (z : Sight K D W). Q b z) same.1 (subst R (sym same.0) step.back),
              )
          | inr other ↦ (u, other.1, refl, λ c is. is)
        ]

    view_is : (P : ℕ → Sight K D W → Type 0) → P a w → ((b : ℕ) (u : Sight K D W) → b ≢ a → get_elem? views b ≡ some u → P b u)
        → (b : ℕ) (u : Sight K D W) → get_elem? (set views a w) b ≡ some u → P b u
    view_is P mine others b u e =
        elim (at_set views a b w u e) [
          | inl same ↦ let Q : ℕ → Type 0 = λ z. P z u in let R : Sight K D W → Type 0 = λ z. P a z
              in subst Q (sym same.0) (subst R same.1 mine)
          | inr other ↦ others b u other.0 other.1
        ]

    -- no other seat's member added anything
    apart_from_more : (b : ℕ) (u : Sight K D W) → b ≢ a → get_elem? views b ≡ some u → (c : ℕ) → IsAmong c (members_at b u)
        → own_of c more ≡ []
    apart_from_more b u apart e c is = elim (empty_or_not (own_of c more)) [
      | inl none ↦ none
      | inr some_own ↦ absurd
          (apart (agrees.once a v at b u e c (step.makers c some_own) is))
    ]

    carried : (c : ℕ) → ((b : ℕ) × (u : Sight K D W) × (get_elem? views b ≡ some u) × IsAmong c (members_at b u)) → (b : ℕ)
        × (u : Sight K D W) × (get_elem? (set views a w) b ≡ some u) × IsAmong c (members_at b u)
    carried c by =
        elim (same_or_not by.0 a) [
          | inl same ↦
              let G : ℕ → Type 0 = λ i. get_elem? views i ≡ some by.1
              in let one : by.1 ≡ v = one_value views a by.1 v (subst G same by.2) at
              in let P : Sight K D W → Type 0 = λ z. IsAmong c (members_at a z)
              in let Q : ℕ → Type 0 = λ i. IsAmong c (members_at i by.1)
              in (a, w, here, step.forth c (subst P one (subst Q same by.3)))
          | inr other ↦ (by.0, by.1, set_else views a by.0 w other ∙ by.2, by.3)
        ]

    pub agrees_step : Agrees key (h ++ more) (set views a w)
    agrees_step = record {
      keyed = view_is (λ b u. 0 < u.known.parts → u.key ≡ Some key) (λ some_parts. step.key
          ∙ agrees.keyed a v at (let same : w.known.parts ≡ v.known.parts = step.parts
          in omega (arith, same))) (λ b u _ g. agrees.keyed b u g);
      seen = view_is (λ b u. IsPrefix u.known.seen (h ++ more)) step.seen (λ b u _ g. prefix_longer u.known.seen h more
          (agrees.seen b u g));
      other = view_is (λ b u. (s : List (Entry D)) → u.stage ≡ Joined s
          → IsPrefix s (h ++ more)) step.other (λ b u _ g s is. prefix_longer s h more (agrees.other b u g s is));
      exact = view_is (λ b u. AreExact (members_at b u) (h ++ more)) step.exact (λ b u apart g. exact_apart (members_at b u) h more
          (apart_from_more b u apart g) (agrees.exact b u g));
      distinct = view_is (λ b u. AreDistinct (members_at b u)) step.distinct (λ b u _ g. agrees.distinct b u g);
      once =
          λ b u e c x g k in_u in_x.
          let p = came b u e
          in let q = came c x g
          in agrees.once b p.0 p.1 c q.0 q.1 k (p.3 k in_u) (q.3 k in_x);
      made =
          λ c some_own.
          elim (empty_or_not (own_of c more)) [
            | inr added ↦ (a, w, here, step.forth c (step.makers c added))
            | inl none ↦ carried c (agrees.made c (λ empty. some_own (own_of-append c h more
                ∙ ap (λ (l : List (Entry D)). l ++ own_of c more) empty ∙ none)))
          ];
      numbered = λ b u e c is. let p = came b u e in let len : length (set views a w) ≡ length views = length-set views a w
          in let low : c < length views = agrees.numbered b p.0 p.1 c (p.3 c is) in omega arith;
      parted = λ b u e c is. let p = came b u e in let low : 0 < p.0.known.parts = agrees.parted b p.0 p.1 c (p.3 c is)
          in let same : u.known.parts ≡ p.0.known.parts = p.2 in omega arith;
      whole = let e : sum_by parts_of (set views a w) + parts_of v ≡ sum_by parts_of views + parts_of w = sum_changed parts_of
          views a v w at in let same : w.known.parts ≡ v.known.parts = step.parts
          in let sum : sum_by parts_of views ≡ ALL_PARTS = agrees.whole in omega arith;
    }

  -- A look: a step that adds nothing and leaves the members as they are.
  pub record IsLook (h : List (Entry D)) (a : ℕ) (v w : Sight K D W) : Type 0 where
    pub key : w.key ≡ v.key
    pub parts : w.known.parts ≡ v.known.parts
    pub members : members_at a w ≡ members_at a v
    pub seen : IsPrefix w.known.seen h
    pub other : (s : List (Entry D)) → w.stage ≡ Joined s → IsPrefix s h

  pub agrees_look : {key : K} {h : List (Entry D)} {views : List (Sight K D W)} {a : ℕ} {v w : Sight K D W} → Agrees key h views
      → get_elem? views a ≡ some v → IsLook h a v w → Agrees key h (set views a w)
  agrees_look {key} {h} {views} {a} {v} {w} agrees at look =
      let P : List (Entry D) → Type 0 = λ g. Agrees key g (set views a w)
      in let X : List (Member D) → Type 0 = λ l. AreExact l (h ++ [])
      in let Y : List (Member D) → Type 0 = λ l. AreDistinct l
      in let Z : List (Entry D) → Type 0 = λ g. AreExact (members_at a v) g
      in subst P (append-nil h)
      (agrees_step key h [] views a v w agrees at (record {
        key = look.key;
        parts = look.parts;
        back = λ c is. let Q : List (Member D) → Type 0 = λ l. IsAmong c l in subst Q look.members is;
        forth = λ c is. let Q : List (Member D) → Type 0 = λ l. IsAmong c l in subst Q (sym look.members) is;
        seen = prefix_longer w.known.seen h [] look.seen;
        other = λ s is. prefix_longer s h [] (look.other s is);
        exact = subst X (sym look.members) (subst Z (sym (append-nil h)) (agrees.exact a v at));
        distinct = subst Y (sym look.members) (agrees.distinct a v at);
        makers = λ c some_own. absurd (some_own refl);
      }))

  -- the first seat's view agrees with the history without entries
  pub agrees_first : (key : K) → Agrees {K = K} {D = D} {W = W} key [] (first_sight (Some key) ∷ [])
  agrees_first key =
      let only : (a : ℕ) (v : Sight K D W) → get_elem? (first_sight (Some key) ∷ []) a ≡ some v → (a ≡ 0)
      × (first_sight (Some key) ≡ v) = λ a v e. elim (at_end [] (first_sight (Some key)) v a e) [
        | inl none ↦ absurd
            (some-ne-none v (sym none))
        | inr last ↦ last
      ]
      in let each : (P : ℕ → Sight K D W → Type 0) → P 0 (first_sight (Some key)) → (a : ℕ) (v : Sight K D W)
      → get_elem? (first_sight (Some key) ∷ []) a ≡ some v → P a v = λ P first a v e. let Q : ℕ → Type 0 = λ i. P i v
      in let R : Sight K D W → Type 0 = λ z. P 0 z in subst Q (sym (only a v e).0) (subst R (only a v e).1 first)
      in record {
        keyed = each (λ a v. 0 < v.known.parts → v.key ≡ Some key) (λ _. refl);
        seen = each (λ a v. IsPrefix v.known.seen []) ([], refl);
        other = each (λ a v. (s : List (Entry D)) → v.stage ≡ Joined s
            → IsPrefix s []) (λ s is. let wrong : ◌≡◌ {A = Stage D W} Idle (Joined s) = is in cc);
        exact = each (λ a v. AreExact (members_at a v) []) (refl, tt);
        distinct = each (λ a v. AreDistinct (members_at a v)) ((λ is. is), tt);
        once = λ a v e b w g c _ _. (only b w g).0 ∙ sym (only a v e).0;
        made = λ c some_own. absurd (some_own refl);
        numbered = each (λ a v. (c : ℕ) → IsAmong c (members_at a v)
            → c < 1) (λ c is. elim is [ inl e ↦ omega arith | inr none ↦ absurd none ]);
        parted = each (λ a v. (c : ℕ) → IsAmong c (members_at a v) → 0 < v.known.parts) (λ c is. omega arith);
        whole = refl;
      }

  -- A seat that is in no call and has all parts has seen everything, and each entry is one of its members'.
  module _ (key : K) (h : List (Entry D)) (views : List
      (Sight K D W)) (a : ℕ) (v : Sight K D W) (agrees : Agrees key h views) (at : get_elem? views a ≡ some v)
      (all : v.known.parts ≡ ALL_PARTS) where
    pub others_have_none : (b : ℕ) (u : Sight K D W) → b ≢ a → get_elem? views b ≡ some u → u.known.parts ≡ 0
    others_have_none b u apart e = let two : parts_of v + parts_of u ≤ sum_by parts_of views = sum_of_two parts_of views v u
        {nothing = gone} refl at e apart in let sum : sum_by parts_of views ≡ ALL_PARTS = agrees.whole in omega arith

    all_mine : (c : ℕ) → own_of c h ≢ [] → IsAmong c (members_at a v)
    all_mine c some_own =
        let by = agrees.made c some_own
        in elim (same_or_not by.0 a) [
          | inl same ↦
              let G : ℕ → Type 0 = λ i. get_elem? views i ≡ some by.1
              in let one : by.1 ≡ v = one_value views a by.1 v (subst G same by.2) at
              in let P : Sight K D W → Type 0 = λ z. IsAmong c (members_at a z)
              in let Q : ℕ → Type 0 = λ i. IsAmong c (members_at i by.1)
              in subst P one (subst Q same by.3)
          | inr other ↦ let none : by.1.known.parts ≡ 0 = others_have_none by.0 by.1 other by.2
              in let some_parts : 0 < by.1.known.parts = agrees.parted by.0 by.1 by.2 c by.3 in absurd (omega arith)
        ]

    pub all_members : AllByRecursion (λ (x : Entry D). IsAmong x.seat (members_at a v)) h
    all_members = all_seats (λ c. IsAmong c (members_at a v)) h all_mine

    -- and what it has seen is the whole history, where its members are exact in that
    pub seen_whole : AreExact (members_at a v) v.known.seen → v.known.seen ≡ h
    seen_whole exact =
        let p : IsPrefix v.known.seen h = agrees.seen a v at
        in let H : List (Entry D) → Type 0 = λ g. AreExact (members_at a v) g
        in let both : AreExact (members_at a v) (v.known.seen ++ p.0) = subst H (sym p.1) (agrees.exact a v at)
        in let none : (c : ℕ) → IsAmong c (members_at a v)
        → own_of c p.0 ≡ [] = none_of_members (members_at a v) v.known.seen p.0 exact both
        in let nothing : p.0 ≡ [] =
        nobody_made p.0 (λ c some_own. some_own (none c (all_mine c (λ empty. some_own (let Q : List (Entry D)
        → Type 0 = λ g. own_of c g ≡ [] in let cut : own_of c v.known.seen ++ own_of c p.0 ≡ [] = sym
        (own_of-append c v.known.seen p.0) ∙ subst Q (sym p.1) empty
        in second_empty (own_of c v.known.seen) (own_of c p.0) cut)))))
        in sym (append-nil v.known.seen) ∙ ap (λ (g : List (Entry D)). v.known.seen ++ g) (sym nothing) ∙ p.1
