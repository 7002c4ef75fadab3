-- What callers see of a line buffer: a list with a capacity.
use Rattle.std.specs.Prelude.{ℕ, ◌+◌, ◌<◌, List, ◌++◌, length, take, drop, replicate}
use Rattle.std.specs.Str.{byte}

pub record Buffer : Type 0 where
  pub bytes : List ℕ
  pub capacity : ℕ

-- the bytes with more behind them
abbrev pub appended : Buffer → List ℕ → Buffer
appended b more = record b { bytes = b.bytes ++ more }

-- the bytes from `at` on moved up, with spaces in the gap
abbrev pub shifted : Buffer → ℕ → ℕ → Buffer
shifted b at by = record b { bytes = take at b.bytes ++ replicate by (byte " ") ++ drop at b.bytes }

-- the first bytes
abbrev pub truncated : Buffer → ℕ → Buffer
truncated b len = record b { bytes = take len b.bytes }

-- more bytes than the capacity leaves room for
abbrev pub LacksRoom : Buffer → ℕ → Type 0
LacksRoom b more = b.capacity < length b.bytes + more
