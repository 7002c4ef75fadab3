-- Writing up to an end: what does not fit before it is left out.
use Rattle.std.specs.Prelude.{ℕ, ◌+◌, ◌-◌, ◌≤◌, List, ◌++◌, length, take, drop, false, if◌then◌else◌}
use Rattle.alog_pattern.specs.declared.items.Padding.{Padding}
use Rattle.alog_pattern.specs.declared.items.Side.{Side}
use Rattle.alog_pattern.specs.Padding.{pad, spaces, spaces_before}
use Rattle.alog_format.specs.Buffer.{Buffer}

-- the bytes with more behind them, cut at the end
unfoldable pub clipped : Buffer → ℕ → List ℕ → Buffer
clipped b end more = record b { bytes = take end (b.bytes ++ more) }

-- an end between the bytes and the capacity
unfoldable pub HasEnd : Buffer → ℕ → Type 0
HasEnd b end = (length b.bytes ≤ end) × (end ≤ b.capacity)

-- how far a text may go that is padded: as far as the width where it is cut
abbrev pub limit_of : Buffer → Padding → ℕ
limit_of b p = if p.cut then length b.bytes + p.width else b.capacity

-- the bytes from `start` on with spaces round them
abbrev pub surrounded : Buffer → ℕ → ℕ → Side → Buffer
surrounded b start missing side =
    let before = spaces_before side missing in
    record b { bytes = take start b.bytes ++ (spaces before ++ drop start b.bytes ++ spaces (missing - before)) }

-- the bytes from `start` on padded
abbrev pub padded_from : Buffer → ℕ → ℕ → Side → Buffer
padded_from b start width side = record b { bytes = take start b.bytes ++ pad width side false (drop start b.bytes) }
