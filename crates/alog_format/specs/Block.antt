-- What a move within the block makes of its bytes.
use Rattle.std.specs.Prelude.{ℕ, ◌+◌, ◌-◌, List, ◌++◌, length, take, drop, replicate}
use Rattle.std.specs.Str.{byte}

-- the bytes from `at` to `len` moved up by `by`, and spaces in the gap
abbrev pub gapped : List ℕ → ℕ → ℕ → ℕ → List ℕ
gapped block len at by =
    take at block ++ (replicate by (byte " ") ++ (take (len - at) (drop at block) ++ drop (len + by) block))

-- the `count` bytes from `from` on, copied to the places from `to` on
abbrev pub moved : List ℕ → ℕ → ℕ → ℕ → List ℕ
moved block from to count = take to block ++ (take count (drop from block) ++ drop (to + count) block)

-- the bytes at the places from `at` on
abbrev pub overwritten : List ℕ → ℕ → List ℕ → List ℕ
overwritten block at bytes = take at block ++ (bytes ++ drop (at + length bytes) block)
