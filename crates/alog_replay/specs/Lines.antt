-- The lines of a script.
use Rattle.std.specs.Prelude.{◌≡◌, ◌≤◌, ◌<◌, ℕ, List, ◌∷◌, ◌++◌, length}
pub use Rattle.alog_lines.specs.Lines.{lines_of, IsUnbroken}
use Rattle.alog_replay.specs.declared.limits.TheConstants.{SCRIPT_LINE_MAX}

-- the bytes that a reading of a script begins with make its first line, whatever front of the bytes after them is read
pub record TakesLine (script line after : List ℕ) : Type 0 where
  pub taken : List ℕ
  pub whole : script ≡ taken ++ after
  pub lines : lines_of script ≡ line ∷ lines_of after
  pub fronts : (x y : List ℕ) → after ≡ x ++ y → lines_of (taken ++ x) ≡ line ∷ lines_of x
  pub fits : length line ≤ SCRIPT_LINE_MAX

-- the first line has more than `SCRIPT_LINE_MAX` bytes
abbrev pub BeginsTooLong : List ℕ → Type 0
BeginsTooLong script = (line : List ℕ) × (lines : List (List ℕ)) × (lines_of script ≡ line ∷ lines) × (SCRIPT_LINE_MAX < length line)
