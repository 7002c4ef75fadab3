-- The places of a ring that keep to a limit.
use Rattle.std.specs.Prelude.{◌≡◌, ℕ, List}
use Rattle.std.specs.List.{AllByRecursion}
use mathlib.Core.Option as maybe
use lib.ListN.{get_elem?}
use Rattle.atomic_table.specs.Table.{State}
use Rattle.alog_ring.specs.Kinds.{PlaceKind}
use Rattle.alog_ring.specs.Rule.{Ruled}
use Rattle.alog_ring.specs.Sight.{Sight}

module _ {S : Type 0} (admits : S → Type 0) where
  -- each place at home, and each that a seat holds
  abbrev pub AreAtHome : List (maybe.Option S) → Type 0
  AreAtHome homes = (k : ℕ) (place : S) → get_elem? homes k ≡ maybe.some (maybe.some place) → admits place

  abbrev pub AreHeld : List (ℕ × S) → Type 0
  AreHeld held = AllByRecursion (λ (p : ℕ × S). admits p.1) held

-- The rule of a ring whose places keep to a limit.
pub record Keeps {S T N : Type 0} (kind : PlaceKind S T N) (firsts : List S) (admits : S → Type 0) (n f : ℕ)
    (s : State S (Sight T N)) : Type 0 where
  pub ruled : Ruled kind.has (kind.spare firsts) n f s
  pub values : AreAtHome admits s.homes
