-- Lists that have something at each place: what stands at the first place of each, and what is behind.
use Rattle.std.specs.Prelude.{List, [], ◌∷◌}

abbrev pub heads : {A : Type 0} → List (List A) → List A
heads [] = []
heads ([] ∷ rows) = heads rows
heads ((x ∷ xs) ∷ rows) = x ∷ heads rows

abbrev pub tails : {A : Type 0} → List (List A) → List (List A)
tails [] = []
tails ([] ∷ rows) = [] ∷ tails rows
tails ((x ∷ xs) ∷ rows) = xs ∷ tails rows
