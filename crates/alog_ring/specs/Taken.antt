-- What is taken out of the places of a swap ring.
use Rattle.std.specs.Prelude.{◌≡◌, ℕ, ◌+◌, ◌%◌, List, [], ◌∷◌}
use mathlib.Core.Option as maybe
use lib.ListN.{get_elem?}

module _ {B : Type 0} (places : List B) (n : ℕ) where
  -- this lies in the place of the ticket
  abbrev pub LiesFor : ℕ → B → Type 0
  LiesFor t y = get_elem? places (t % n) ≡ maybe.some y

  -- these are the tickets from this one on, each with what lies in its place
  abbrev pub AreOf : ℕ → List (ℕ × B) → Type 0
  AreOf t [] = Unit {0}
  AreOf t (p ∷ ps) = (p.0 ≡ t) × LiesFor t p.1 × AreOf (t + 1) ps
