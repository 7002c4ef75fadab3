-- The history against the views, as a step adds entries to it and changes the view that steps.
use Rattle.std.proofs.Common.{◌≡◌, ◌≢◌, ℕ, ◌+◌, ◌<◌, List, [], ◌++◌, length, set, refl, sym, ap, subst, ◌∙◌, inl, inr, arith}
use Rattle.std.proofs.Common.{length-set, ◌∷◌}
use Rattle.std.specs.List.{AllByRecursion, sum_by}
use Rattle.std.proofs.lemmas.List.{append-nil}
use mathlib.Core.Option.{some}
use mathlib.Core.List.{IsPrefix}
use lib.ListN.{get_elem?}
use Rattle.atomic_table.proofs.Lists.{at_set, set_else, set_here}
use Rattle.alog_core.specs.History.{Entry, own_of}
use Rattle.alog_core.proofs.SharedHistories.{own_of-append}
use Rattle.alog_ring.specs.Known.{Member, Known, IsAmong, AreDistinct, members_of}
use Rattle.alog_ring.specs.Made.{AreExact}
use Rattle.alog_ring.specs.Sight.{Sight}
use Rattle.alog_ring.specs.Rule.{parts_of, IsRetired, IsTakenIn, HasEntries, Told}
use Rattle.alog_core.proofs.SharedLaps.{same_or_not}
use Rattle.alog_ring.proofs.SharedLists.{inside, one_value, prefix_same, prefix_longer, each_of, each_of_two, sum_changed}

module _ {T N : Type 0} where
  -- these entries are the actor's
  pub record AreOf (a : ℕ) (more : List (Entry T N)) : Type 0 where
    pub all : own_of a more ≡ more
    pub others : (b : ℕ) → b ≢ a → own_of b more ≡ []

  pub others_keep : (a b : ℕ) (h more : List (Entry T N)) → AreOf a more → b ≢ a → own_of b (h ++ more) ≡ own_of b h
  others_keep a b h more of apart = own_of-append b h more
      ∙ ap (λ (l : List (Entry T N)). own_of b h ++ l) (of.others b apart) ∙ append-nil (own_of b h)

  -- a retired seat is none that has parts
  pub retired_apart : (views : List (Sight T N)) (a b : ℕ) (v : Sight T N) → get_elem? views a ≡ some v → 0 < v.known.parts
      → IsRetired views b → b ≢ a
  retired_apart views a b v at live gone same =
      let P : ℕ → Type 0 = λ i. get_elem? views i ≡ some gone.0
      in let one : gone.0 ≡ v = one_value views a gone.0 v (subst P same gone.1) at
      in let e : gone.0.known.parts ≡ v.known.parts = ap (λ (x : Sight T N). x.known.parts) one
      in omega (arith, gone.2)

  -- who is a member among retired seats is retired
  pub among_retired : (views : List (Sight T N)) (b : ℕ) (l : List (Member T N))
      → AllByRecursion (λ (c : Member T N). IsRetired views c.actor) l → IsAmong b l → IsRetired views b
  among_retired views b [] all is = absurd is
  among_retired views b (c ∷ cs) all is =
      let P : ℕ → Type 0 = λ z. IsRetired views z
      in elim is [ inl e ↦ subst P (sym e) all.0 | inr more ↦ among_retired views b cs all.1 more ]

  -- a pass and those joined into it are each another actor
  pub members_distinct : {n f a : ℕ} {h : List (Entry T N)} {views : List (Sight T N)} (v : Sight T N) → Told n f h views
      → get_elem? views a ≡ some v → 0 < v.known.parts → v.known.actor ≡ a → AreDistinct (members_of v.known)
  members_distinct {a} {views} v told at live named = (
    (λ is. retired_apart views a v.known.actor v at live
        (among_retired views v.known.actor v.known.joined (told.entries a v at live).retired is) named),
    told.distinct a v at live,
  )

  module _ (views : List (Sight T N)) (a : ℕ) (v w : Sight T N) (at : get_elem? views a ≡ some v)
      (live : 0 < v.known.parts) where
    pub still_retired : (b : ℕ) → IsRetired views b → IsRetired (set views a w) b
    still_retired b gone =
        (gone.0, set_else views a b w (retired_apart views a b v at live gone) ∙ gone.1, gone.2)

    exact_longer : (h more : List (Entry T N)) (members : List (Member T N)) → AreOf a more
        → AllByRecursion (λ (c : Member T N). IsRetired views c.actor) members → AreExact members h
        → AreExact members (h ++ more)
    exact_longer h more members of gone exact =
        each_of_two (λ (c : Member T N). c.own ≡ own_of c.actor h) (λ (c : Member T N). IsRetired views c.actor)
        (λ (c : Member T N). c.own ≡ own_of c.actor (h ++ more)) members
        (λ (c : Member T N) e r. e ∙ sym (others_keep a c.actor h more of (retired_apart views a c.actor v at live r)))
        exact gone

    entries_longer : (h more : List (Entry T N)) (b : ℕ) (k : Known T N) → AreOf a more → b ≢ a → HasEntries h views b k
        → HasEntries (h ++ more) (set views a w) b k
    entries_longer h more b k of apart has = record {
      own = has.own ∙ sym (others_keep a b h more of apart);
      joined = exact_longer h more k.joined of has.retired has.joined;
      retired = each_of (λ (c : Member T N). IsRetired views c.actor)
          (λ (c : Member T N). IsRetired (set views a w) c.actor) k.joined
          (λ (c : Member T N) r. still_retired c.actor r) has.retired;
    }

    still_taken_in : (b : ℕ) → w.known.parts ≡ v.known.parts → w.known.joined ≡ v.known.joined → IsTakenIn views b
        → IsTakenIn (set views a w) b
    still_taken_in b parts joined by =
        let P : List (Member T N) → Type 0 = λ l. IsAmong b l
        in let here : get_elem? (set views a w) a ≡ some w = set_here views a w (inside views a v at)
        in elim (same_or_not by.0 a) [
          | inl same ↦
              let Q : ℕ → Type 0 = λ i. get_elem? views i ≡ some by.1
              in let one : by.1 ≡ v = one_value views a by.1 v (subst Q same by.2) at
              in (a, w, here, omega (arith, parts), subst P (ap (λ (x : Sight T N). x.known.joined) one ∙ sym joined) by.4)
          | inr other ↦ (by.0, by.1, set_else views a by.0 w other ∙ by.2, by.3, by.4)
        ]

  -- The view that steps, after it added these entries to the history: what it knows is true of the history now.
  pub record Grows (a : ℕ) (v w : Known T N) (h more : List (Entry T N)) : Type 0 where
    pub places : w.places ≡ v.places
    pub first : w.first ≡ v.first
    pub parts : w.parts ≡ v.parts
    pub joined : w.joined ≡ v.joined
    pub own : w.own ≡ v.own ++ more
    pub seen : IsPrefix w.seen (h ++ more)

  module _ (n f a : ℕ) (h more : List (Entry T N)) (views : List (Sight T N)) (v w : Sight T N) (told : Told n f h views)
      (at : get_elem? views a ≡ some v) (live : 0 < v.known.parts) (of : AreOf a more)
      (grows : Grows a v.known w.known h more) where
    own_entries : HasEntries (h ++ more) (set views a w) a w.known
    own_entries =
        let has : HasEntries h views a v.known = told.entries a v at live
        in let E : List (Member T N) → Type 0 = λ l. AreExact l (h ++ more)
        in let R : List (Member T N) → Type 0 =
        λ l. AllByRecursion (λ (c : Member T N). IsRetired (set views a w) c.actor) l
        in record {
          own = grows.own ∙ (λ i. has.own i ++ sym of.all i) ∙ sym (own_of-append a h more);
          joined = subst E (sym grows.joined)
              (exact_longer views a v w at live h more v.known.joined of has.retired has.joined);
          retired = subst R (sym grows.joined)
              (each_of (λ (c : Member T N). IsRetired views c.actor)
              (λ (c : Member T N). IsRetired (set views a w) c.actor) v.known.joined
              (λ (c : Member T N) r. still_retired views a v w at live c.actor r) has.retired);
        }

    pub told_more : Told n f (h ++ more) (set views a w)
    told_more = record {
      places = λ b u e.
          view_is b u e (λ x. 0 < x.known.parts → x.known.places ≡ n) (λ _. grows.places ∙ told.places a v at live)
          (λ _ g. told.places b u g);
      first = λ b u e.
          view_is b u e (λ x. 0 < x.known.parts → x.known.first ≡ f) (λ _. grows.first ∙ told.first a v at live)
          (λ _ g. told.first b u g);
      seen = λ b u e.
          view_is b u e (λ x. IsPrefix x.known.seen (h ++ more)) grows.seen
          (λ _ g. prefix_longer u.known.seen h more (told.seen b u g));
      entries =
          λ b u e some_parts.
          elim (at_set views a b w u e) [
            | inl same ↦
                let H : Sight T N → Type 0 = λ x. HasEntries (h ++ more) (set views a w) a x.known
                in let G : ℕ → Type 0 = λ c. HasEntries (h ++ more) (set views a w) c u.known
                in subst G (sym same.0) (subst H same.1 own_entries)
            | inr other ↦ entries_longer views a v w at live h more b u.known of other.0
                (told.entries b u other.1 some_parts)
          ];
      without =
          λ b u e none.
          elim (at_set views a b w u e) [
            | inl same ↦ let p : w.known.parts ≡ u.known.parts = ap (λ (x : Sight T N). x.known.parts) same.1 in
                absurd (omega (arith, grows.parts))
            | inr other ↦
                elim (told.without b u other.1 none) [
                  | inl empty ↦ inl (others_keep a b h more of other.0 ∙ empty)
                  | inr taken ↦ inr (still_taken_in views a v w at live b grows.parts grows.joined taken)
                ]
          ];
      distinct = λ b u e.
          view_is b u e (λ x. 0 < x.known.parts → AreDistinct x.known.joined)
          (λ _. let P : List (Member T N) → Type 0 =
          λ l. AreDistinct l in subst P (sym grows.joined) (told.distinct a v at live))
          (λ _ g. told.distinct b u g);
      once =
          λ b u e some_u j x g some_x apart c in_u in_x.
          let p = came b u e c in_u some_u
          in let q = came j x g c in_x some_x
          in told.once b p.0 p.1 p.2 j q.0 q.1 q.2 apart c p.3 q.3;
      unborn =
          λ b far.
          let len : length (set views a w) ≡ length views = length-set views a w
          in let in_list : a < length views = inside views a v at
          in others_keep a b h more of (omega arith) ∙ told.unborn b (omega arith);
      whole = let e : sum_by parts_of (set views a w) + parts_of v ≡ sum_by parts_of views + parts_of w =
          sum_changed parts_of views a v w at in omega (arith, grows.parts, told.whole);
    }
      where
        came : (b : ℕ) (u : Sight T N) → get_elem? (set views a w) b ≡ some u → (c : ℕ) → IsAmong c u.known.joined
            → 0 < u.known.parts → (o : Sight T N) × (get_elem? views b ≡ some o) × (0 < o.known.parts)
            × IsAmong c o.known.joined
        came b u e c is some_parts =
            elim (at_set views a b w u e) [
              | inl same ↦
                  let G : ℕ → Type 0 = λ z. get_elem? views z ≡ some v
                  in let P : List (Member T N) → Type 0 = λ l. IsAmong c l
                  in (
                    v,
                    subst G (sym same.0) at,
                    live,
                    subst P (sym (ap (λ (z : Sight T N). z.known.joined) same.1) ∙ grows.joined) is,
                  )
              | inr other ↦ (u, other.1, some_parts, is)
            ]

        view_is : (b : ℕ) (u : Sight T N) → get_elem? (set views a w) b ≡ some u → (P : Sight T N → Type 0) → P w
            → (b ≢ a → get_elem? views b ≡ some u → P u) → P u
        view_is b u e P mine others =
            elim (at_set views a b w u e) [ inl same ↦ subst P same.1 mine | inr other ↦ others other.0 other.1 ]

  -- the pass when it has seen the history with the entries that it adds
  abbrev pub grown : Known T N → List (Entry T N) → List (Entry T N) → Known T N
  grown k h more =
      record {
        places = k.places;
        first = k.first;
        actor = k.actor;
        parts = k.parts;
        seen = h ++ more;
        own = k.own ++ more;
        joined = k.joined;
      }

  pub grows_now : (a : ℕ) (h more : List (Entry T N)) (v : Sight T N) → Grows a v.known (grown v.known h more) h more
  grows_now a h more v =
      record {
        places = refl;
        first = refl;
        parts = refl;
        joined = refl;
        own = refl;
        seen = prefix_same (h ++ more);
      }

  pub faithful_now : {n f a : ℕ} {h more : List (Entry T N)} {views : List (Sight T N)} (v : Sight T N) → Told n f h views
      → get_elem? views a ≡ some v → 0 < v.known.parts → AreOf a more
      → (v.known.own ++ more ≡ own_of a (h ++ more)) × AreExact v.known.joined (h ++ more)
  faithful_now {a} {h} {more} {views} v told at live of =
      let has : HasEntries h views a v.known = told.entries a v at live
      in (
        (λ i. has.own i ++ sym of.all i)
            ∙ sym (own_of-append a h more),
        exact_longer views a v v at live h more v.known.joined of has.retired has.joined,
      )
