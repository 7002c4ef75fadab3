-- Each step keeps the places of a ring to their limit.
use Rattle.std.proofs.Common.{◌≡◌, ℕ, zero, suc, ◌⊎◌, inl, inr, List, [], ◌∷◌, Option, None, map, replicate, set, sym}
use Rattle.std.proofs.Common.{subst}
use Rattle.std.specs.Prelude.{IfSome}
use Rattle.std.specs.List.{AllByRecursion}
use mathlib.Core.Option as maybe
use lib.ListN.{get_elem?}
use Rattle.atomic_table.specs.Table.{Me, Act, keeps, takes, gives, chain, Valid, homes_after, carried_after, rest, Allows}
use Rattle.atomic_table.specs.Table.{Splits, Joins}
use Rattle.alog_ring.specs.Kinds.{PlaceKind}
use Rattle.alog_ring.specs.Sight.{Sight}
use Rattle.alog_ring.specs.Rule.{Ruled}
use Rattle.alog_ring.specs.Limit.{AreAtHome, AreHeld, Keeps}

-- what lies at a place of a list of which one was set
at_set : {A : Type 0} (hs : List A) (k : ℕ) (v : A) (j : ℕ) (w : A) → get_elem? (set hs k v) j ≡ maybe.some w
    → (w ≡ v) ⊎ (get_elem? hs j ≡ maybe.some w)
at_set [] k v j w is = inr is
at_set (x ∷ xs) zero v zero w is = inl (sym (maybe.some-injective v w is))
at_set (x ∷ xs) zero v (suc j) w is = inr is
at_set (x ∷ xs) (suc k) v zero w is = inr is
at_set (x ∷ xs) (suc k) v (suc j) w is = at_set xs k v j w is

module _ {S : Type 0} (admits : S → Type 0) where
  -- an act takes and gives back what is admitted
  pub after_act : (hs : List (maybe.Option S)) (held : List (ℕ × S)) (a : Act S) → AreAtHome admits hs
      → AreHeld admits held → Valid hs held a → AreAtHome admits (homes_after hs held a) × AreHeld admits (carried_after held a)
  after_act hs held keeps home in_hand valid = (home, in_hand)
  after_act hs held (takes k y) home in_hand valid = (
    (λ j o is.
        elim (at_set hs k maybe.none j (maybe.some o) is) [
          | inl none ↦ absurd (maybe.some-ne-none o none)
          | inr old ↦ home j o old
        ]),
    (home k y valid, in_hand),
  )
  after_act hs [] gives home in_hand valid = (home, tt)
  after_act hs (p ∷ ps) gives home in_hand valid = (
    (λ j o is.
        elim (at_set hs p.0 (maybe.some p.1) j (maybe.some o) is) [
          | inl back ↦ subst admits (sym (maybe.some-injective o p.1 back)) in_hand.0
          | inr old ↦ home j o old
        ]),
    in_hand.1,
  )
  after_act hs held (chain a b) home in_hand valid =
      let first = after_act hs held a home in_hand valid.0
      in after_act (homes_after hs held a) (carried_after held a) b first.0 first.1 valid.1

  -- what is admitted is so by a weaker limit
  pub weaker : (more : S → Type 0) → ((y : S) → admits y → more y) → (held : List (ℕ × S)) → AreHeld admits held
      → AreHeld more held
  weaker more is [] in_hand = tt
  weaker more is (p ∷ ps) in_hand = (is p.1 in_hand.0, weaker more is ps in_hand.1)

  -- a seat that holds nothing
  pub none_held : (held : List (ℕ × S)) → held ≡ [] → AreHeld admits held
  none_held held none = subst (AreHeld admits) (sym none) tt

  pub one_held : (held : List (ℕ × S)) (k : ℕ) (place : S) → held ≡ (k, place) ∷ [] → admits place → AreHeld admits held
  one_held held k place one is = subst (AreHeld admits) (sym one) (is, tt)

  pub held_first : (held : List (ℕ × S)) (k : ℕ) (place : S) → held ≡ (k, place) ∷ rest held → AreHeld admits held
      → admits place
  held_first held k place first in_hand = let both : AreHeld admits ((k, place) ∷ rest held) =
      subst (AreHeld admits) first in_hand in both.0

  -- what lies in the places at the start
  pub at_home : (places : List S) → AllByRecursion admits places → AreAtHome admits (map maybe.some places)
  at_home [] all k y is = absurd (maybe.some-ne-none (maybe.some y) (sym is))
  at_home (x ∷ xs) all zero y is =
      subst admits (maybe.some-injective x y (maybe.some-injective (maybe.some x) (maybe.some y) is)) all.0
  at_home (x ∷ xs) all (suc k) y is = at_home xs all.1 k y is

-- no limit is for places that are empty
pub none_admitted : {T : Type 0} (admits : T → Type 0) (n : ℕ)
    → AllByRecursion (λ (place : Option T). IfSome place admits) (replicate n None)
none_admitted admits zero = tt
none_admitted admits (suc n) = (tt, none_admitted admits n)

module _ {S T N : Type 0} (kind : PlaceKind S T N) (firsts : List S) (admits : S → Type 0) (n f : ℕ) where
  -- a step that is allowed is allowed where the places keep to the limit, and they do after it
  pub allowed_in : (slots id : ℕ) (me : Me S (Sight T N)) (i : ℕ) (g : ℕ → ℕ) (P : ℕ → Me S (Sight T N) → Type 0)
      → AreHeld admits me.1 → Allows (λ s. Ruled kind.has (kind.spare firsts) n f s) slots id me i g P
      → Allows (Keeps kind firsts admits n f) slots id me i g (λ y m. P y m × AreHeld admits m.1)
  allowed_in slots id me i g P in_hand may s r wide at fits =
      let go = may s r.ruled wide at fits
      in let after = after_act admits s.homes me.1 go.1 r.values in_hand go.2
      in (go.0, go.1, go.2, record { ruled = go.3; values = after.0 }, (go.4, after.1))

  pub splits_in : (id : ℕ) (v left right : Sight T N)
      → Splits (λ s. Ruled kind.has (kind.spare firsts) n f s) id v left right
      → Splits (Keeps kind firsts admits n f) id v left right
  splits_in id v left right may s r at = record { ruled = may s r.ruled at; values = r.values }

  pub joins_in : (id : ℕ) (v : Sight T N) (other : ℕ) (w both spent : Sight T N)
      → Joins (λ s. Ruled kind.has (kind.spare firsts) n f s) id v other w both spent
      → Joins (Keeps kind firsts admits n f) id v other w both spent
  joins_in id v other w both spent may s r at apart at_other =
      record { ruled = may s r.ruled at apart at_other; values = r.values }
