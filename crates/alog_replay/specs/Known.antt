-- Bytes that a reader has left, where it tells them.
use Rattle.std.specs.Prelude.{List, ℕ, Option, None, Some, ⊤}

-- a fact of what a reader had and of what it has left, where it tells the first, and so the second
abbrev pub WhereKnown : Option (List ℕ) → Option (List ℕ) → (List ℕ → List ℕ → Type 0) → Type 0
WhereKnown None left P = ⊤
WhereKnown (Some bytes) None P = ⊥
WhereKnown (Some bytes) (Some left) P = P bytes left
