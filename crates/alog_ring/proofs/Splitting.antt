-- A seat is cut in two, and the new seat has made nothing yet.
use Rattle.std.proofs.Common.{◌≡◌, ◌≢◌, ℕ, zero, suc, ◌+◌, ◌<◌, ◌⊎◌, List, [], ◌∷◌, ◌++◌, set, length, refl, sym, ap, subst, ◌∙◌}
use Rattle.std.proofs.Common.{inl, inr, arith, length-set}
use Rattle.std.proofs.lemmas.List.{length-append}
use Rattle.std.specs.List.{AllByRecursion, sum_by}
use mathlib.Core.Option.{some, some-injective, some-ne-none}
use mathlib.Core.List.{IsPrefix}
use lib.ListN.{get_elem?}
use Rattle.atomic_table.specs.Table.{State, Splits}
use Rattle.atomic_table.proofs.Lists.{at_set, set_else, set_here, at_longer}
use Rattle.alog_core.specs.Queue.{HasCell}
use Rattle.alog_core.specs.History.{Entry, own_of}
use Rattle.alog_ring.specs.Known.{Member, IsAmong, AreDistinct}
use Rattle.alog_ring.specs.Share.{with_fewer, apart_from}
use Rattle.alog_ring.specs.Sight.{Stage, Idle, Fresh, Lent, Writing, Reading, Sight}
use Rattle.alog_ring.specs.Rule.{parts_of, IsAtWork, IsRetired, IsTakenIn, HasEntries, Knows, Told, Staged, Ruled}
use Rattle.alog_core.proofs.SharedLaps.{same_or_not}
use Rattle.alog_ring.proofs.SharedLists.{inside, one_value, each_of, sum_changed, sum_with_last}
use Rattle.alog_ring.proofs.Telling.{retired_apart}

pub at_end : {A : Type 0} (l : List A) (a b : A) (j : ℕ) → get_elem? (l ++ a ∷ []) j ≡ some b
    → (get_elem? l j ≡ some b) ⊎ ((j ≡ length l) × (a ≡ b))
at_end [] a b zero e = inr (refl, some-injective a b e)
at_end [] a b (suc j) e = absurd (some-ne-none b (sym e))
at_end (x ∷ xs) a b zero e = inl e
at_end (x ∷ xs) a b (suc j) e = elim (at_end xs a b j e) [ inl h ↦ inl h | inr h ↦ inr (omega (arith, h.0), h.1) ]

module _ {T N : Type 0} (n f a : ℕ) (v : Sight T N) (parts : ℕ) (stage : Stage T N) (fewer : parts < v.known.parts)
    (new : (stage ≡ Fresh) ⊎ (stage ≡ Lent)) (idle : v.stage ≡ Idle) where
  abbrev pub left_seat : Sight T N
  left_seat = record { stage = Idle; known = with_fewer v.known parts }

  abbrev pub new_seat : Sight T N
  new_seat = record { stage = stage; known = apart_from v.known 0 parts }

  module _ (h : List (Entry T N)) (views : List (Sight T N)) (at : get_elem? views a ≡ some v) where
    abbrev after_split : List (Sight T N)
    after_split = set views a left_seat ++ new_seat ∷ []

    live : 0 < v.known.parts
    live = omega arith

    here : get_elem? after_split a ≡ some left_seat
    here = at_longer (set views a left_seat) (new_seat ∷ []) a left_seat (set_here views a left_seat (inside views a v at))

    elsewhere : (b : ℕ) (u : Sight T N) → b ≢ a → get_elem? views b ≡ some u → get_elem? after_split b ≡ some u
    elsewhere b u apart e = at_longer (set views a left_seat) (new_seat ∷ []) b u (set_else views a b left_seat apart ∙ e)

    -- a seat after the split is the cut one, the new one or an old one
    which : (P : ℕ → Sight T N → Type 0) → P a left_seat → P (length views) new_seat
        → ((b : ℕ) (u : Sight T N) → b ≢ a → get_elem? views b ≡ some u → P b u) → (b : ℕ) (u : Sight T N)
        → get_elem? after_split b ≡ some u → P b u
    which P mine its others b u e =
        elim (at_end (set views a left_seat) new_seat u b e) [
          | inl old ↦
              elim (at_set views a b left_seat u old) [
                | inl same ↦ let Q : ℕ → Type 0 = λ z. P z u in let R : Sight T N → Type 0 =
                    λ z. P a z in subst Q (sym same.0) (subst R same.1 mine)
                | inr other ↦ others b u other.0 other.1
              ]
          | inr last ↦
              let place : length views ≡ b = sym (length-set views a left_seat) ∙ sym last.0
              in let Q : ℕ → Type 0 = λ z. P z u
              in let R : Sight T N → Type 0 = λ z. P (length views) z
              in subst Q place (subst R last.1 its)
        ]

    retired_still : (b : ℕ) → IsRetired views b → IsRetired after_split b
    retired_still b gone = (gone.0, elsewhere b gone.0 (retired_apart views a b v at live gone) gone.1, gone.2)

    all_retired : (l : List (Member T N)) → AllByRecursion (λ (c : Member T N). IsRetired views c.actor) l
        → AllByRecursion (λ (c : Member T N). IsRetired after_split c.actor) l
    all_retired l =
        each_of (λ (c : Member T N). IsRetired views c.actor) (λ (c : Member T N). IsRetired after_split c.actor) l
        (λ (c : Member T N) r. retired_still c.actor r)

    taken_still : (b : ℕ) → IsTakenIn views b → IsTakenIn after_split b
    taken_still b by =
        elim (same_or_not by.0 a) [
          | inl same ↦
              let Q : ℕ → Type 0 = λ i. get_elem? views i ≡ some by.1
              in let one : by.1 ≡ v = one_value views a by.1 v (subst Q same by.2) at
              in let P : Sight T N → Type 0 = λ z. IsAmong b z.known.joined
              in (a, left_seat, here, omega arith, subst P one by.4)
          | inr other ↦ (by.0, by.1, elsewhere by.0 by.1 other by.2, by.3, by.4)
        ]

    came : (b : ℕ) (u : Sight T N) → get_elem? after_split b ≡ some u → (c : ℕ) → IsAmong c u.known.joined
        → 0 < u.known.parts → (o : Sight T N) × (get_elem? views b ≡ some o) × (0 < o.known.parts)
        × IsAmong c o.known.joined
    came =
        which (λ b u. (c : ℕ) → IsAmong c u.known.joined → 0 < u.known.parts → (o : Sight T N)
        × (get_elem? views b ≡ some o) × (0 < o.known.parts) × IsAmong c o.known.joined)
        (λ c is _. (v, at, live, is))
        (λ c is _. absurd is)
        (λ b u _ g c is some_parts. (u, g, some_parts, is))

    pub told_split : Told n f h views → Told n f h after_split
    told_split told =
        let has : HasEntries h views a v.known = told.entries a v at live
        in record {
          places = which (λ b u. 0 < u.known.parts → u.known.places ≡ n) (λ _. told.places a v at live)
              (λ _. told.places a v at live) (λ b u _ g. told.places b u g);
          first = which (λ b u. 0 < u.known.parts → u.known.first ≡ f) (λ _. told.first a v at live)
              (λ _. told.first a v at live) (λ b u _ g. told.first b u g);
          seen = which (λ b u. IsPrefix u.known.seen h) (told.seen a v at) (told.seen a v at) (λ b u _ g. told.seen b u g);
          entries =
              which (λ b u. 0 < u.known.parts → HasEntries h after_split b u.known)
              (λ _. record { own = has.own; joined = has.joined; retired = all_retired v.known.joined has.retired })
              (λ _. record { own = sym (told.unborn (length views) (omega arith)); joined = tt; retired = tt })
              (λ b u _ g some_parts.
              let old : HasEntries h views b u.known = told.entries b u g some_parts
              in record { own = old.own; joined = old.joined; retired = all_retired u.known.joined old.retired });
          without =
              which (λ b u. u.known.parts ≡ 0 → (own_of b h ≡ []) ⊎ IsTakenIn after_split b)
              (λ none. absurd (omega arith))
              (λ _. inl (told.unborn (length views) (omega arith)))
              (λ b u _ g none.
              elim (told.without b u g none) [ inl empty ↦ inl empty | inr taken ↦ inr (taken_still b taken) ]);
          distinct =
              which (λ b u. 0 < u.known.parts → AreDistinct u.known.joined) (λ _. told.distinct a v at live) (λ _. tt)
              (λ b u _ g. told.distinct b u g);
          once =
              λ b u e some_u j x g some_x apart c in_u in_x.
              let p = came b u e c in_u some_u
              in let q = came j x g c in_x some_x
              in told.once b p.0 p.1 p.2 j q.0 q.1 q.2 apart c p.3 q.3;
          unborn =
              λ b far.
              let len : length after_split ≡ length (set views a left_seat) + length (new_seat ∷ []) =
              length-append (set views a left_seat) (new_seat ∷ [])
              in let same : length (set views a left_seat) ≡ length views = length-set views a left_seat
              in told.unborn b (omega arith);
          whole =
              let with_new : sum_by parts_of after_split ≡ sum_by parts_of (set views a left_seat) + parts_of new_seat =
              sum_with_last parts_of (set views a left_seat) new_seat
              in let changed : sum_by parts_of
              (set views a left_seat) + parts_of v ≡ sum_by parts_of views + parts_of left_seat =
              sum_changed parts_of views a v left_seat at
              in omega (arith, told.whole);
        }

    pub staged_split : (q : Rattle.alog_core.specs.Queue.Queue T) → Staged n h q views → Staged n h q after_split
    staged_split q staged =
        let K : Stage T N → Type 0 = λ z. Knows n h q a v.known z
        in let work : IsAtWork a v.known = subst K idle (staged.knows a v at)
        in let not_writing : (p : ℕ) (x : T)
        → v.stage ≢ Writing p x = λ p x e. let wrong : ◌≡◌ {A = Stage T N} Idle (Writing p x) = sym idle ∙ e in cc
        in let not_reading : (p : ℕ) (x : T)
        → v.stage ≢ Reading p x = λ p x e. let wrong : ◌≡◌ {A = Stage T N} Idle (Reading p x) = sym idle ∙ e in cc
        in let N' : Stage T N → Type 0 = λ z. Knows n h q (length views) new_seat.known z
        in record {
          knows =
              which (λ b u. Knows n h q b u.known u.stage) (work.0, omega arith)
              (elim new [ inl e ↦ subst N' (sym e) tt | inr e ↦ subst N' (sym e) tt ])
              (λ b u _ g. staged.knows b u g);
          writers =
              λ p x b has.
              let old : (u : Sight T N) × (get_elem? views b ≡ some u) × (u.stage ≡ Writing p x) = staged.writers p x b has
              in let not_me : b ≢ a = λ e. let G : ℕ → Type 0 = λ c. get_elem? views c ≡ some old.0 in let is : old.0 ≡ v =
              one_value views a old.0 v (subst G e old.1) at in
              not_writing p x (sym (ap (λ (z : Sight T N). z.stage) is) ∙ old.2)
              in (old.0, elsewhere b old.0 not_me old.1, old.2);
          readers =
              λ p x b has.
              let old : (u : Sight T N) × (get_elem? views b ≡ some u) × (u.stage ≡ Reading p x) = staged.readers p x b has
              in let not_me : b ≢ a = λ e. let G : ℕ → Type 0 = λ c. get_elem? views c ≡ some old.0 in let is : old.0 ≡ v =
              one_value views a old.0 v (subst G e old.1) at in
              not_reading p x (sym (ap (λ (z : Sight T N). z.stage) is) ∙ old.2)
              in (old.0, elsewhere b old.0 not_me old.1, old.2);
        }

  pub splits : {S : Type 0} (has : S → T → Type 0) (spare : ℕ → List (Entry T N) → ℕ → S → Type 0)
      → Splits (λ (s : State S (Sight T N)). Ruled has spare n f s) a v left_seat new_seat
  splits has spare s r at = record {
    history = r.history;
    queue = r.queue;
    two = r.two;
    stands = r.stands;
    told = told_split r.history s.views at r.told;
    staged = staged_split r.history s.views at r.queue r.staged;
    shown = r.shown;
  }
