-- The place in a program that a message comes from.
use Rattle.std.specs.Prelude.{ℕ, List}

-- the bytes of its file and its function, and the line
pub record SourceFields : Type 0 where
  pub file : List ℕ
  pub line : ℕ
  pub function : List ℕ
