-- The bytes of a window, and the room behind them.
use Rattle.std.specs.Prelude.{◌≡◌, ℕ, ◌-◌, List, ◌++◌, Option, slice_range, vec_len}
use Rattle.std.specs.Io.KnownBytes.{Consumes}
use Rattle.alog_lines.specs.declared.window.Window.{Window}

-- what was read and is in no piece yet
abbrev pub held : Window → List ℕ
held w = slice_range w.bytes.items w.start w.end

-- how many bytes fit behind it
abbrev pub room : Window → ℕ
room w = vec_len w.bytes - w.end

-- a read brought these bytes behind those that were held, and the reader has lost them
pub record Came (before after : Option (List ℕ)) (old new : List ℕ) : Type 0 where
  pub bytes : List ℕ
  pub behind : new ≡ old ++ bytes
  pub taken : Consumes before after bytes
