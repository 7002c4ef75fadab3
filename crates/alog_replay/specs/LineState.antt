-- What a line reader holds.
use Rattle.std.specs.Prelude.{ℕ, ◌+◌, ◌*◌, List, Option, length}
use Rattle.std.specs.Io.KnownBytes.{prepend_known}
use Rattle.alog_replay.specs.declared.limits.TheConstants.{CHUNK}

-- the line so far, the bytes that were read and are in no line yet, and how often the reader may still be read
pub record LineState : Type 0 where
  pub line : List ℕ
  pub pending : List ℕ
  pub reads_left : ℕ

-- the bytes of the script after the line, where the reader tells what remains
abbrev pub rest_of : LineState → Option (List ℕ) → Option (List ℕ)
rest_of state remaining = prepend_known state.pending remaining

-- what is left to do: each line takes at least a byte or a read, and a read gives at most `CHUNK` bytes
abbrev pub work_left : LineState → ℕ
work_left state = (CHUNK + 1) * state.reads_left + length state.pending
