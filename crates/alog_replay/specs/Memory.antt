-- The memory file of a script, and what a turn does to it.
use Rattle.std.specs.Prelude.{◌≡◌, ◌⊎◌, ◌&&◌, ℕ, Bool, true, false, Option, None, Some, List, [], ◌∷◌, ◌++◌, codes}
use Rattle.std.specs.Option.{unwrap_or}
use Rattle.alog_replay.specs.Scene.{WhereTrue}

-- what callers see of the sink `memory`
pub record MemoryFile : Type 0 where
  -- the bytes of the file `memory`, where it is made
  pub bytes : Option (List ℕ)
  -- the store has failed
  pub broken : Bool

-- the name of the file
abbrev pub memory_name : List ℕ
memory_name = codes "memory"

-- no file, and a store that has not failed
abbrev pub no_file : MemoryFile
no_file = record { bytes = None; broken = false }

-- the line of a text
abbrev pub line : List ℕ → List ℕ
line text = text ++ 10 ∷ []

-- a file with these bytes behind those that it has; an absent one is made
abbrev pub with_bytes : Option (List ℕ) → List ℕ → Option (List ℕ)
with_bytes file bytes = Some (unwrap_or file [] ++ bytes)

-- a line failed to be written: the file is as it was, or has some first bytes of the line more
abbrev pub HasFront : List ℕ → Option (List ℕ) → Option (List ℕ) → Type 0
HasFront line old new = (new ≡ old) ⊎ ((front : List ℕ) × (rest : List ℕ) × (line ≡ front ++ rest) × (new ≡ with_bytes old front))

-- A turn with a text: whether its line was written, and the file after it. A store that may fail may do so now, and one
-- that has failed fails again, which changes nothing.
abbrev pub Turns : Bool → MemoryFile → List ℕ → Bool → MemoryFile → Type 0
Turns may_fail old text true new =
    (may_fail && old.broken ≡ false) × (new ≡ record { bytes = with_bytes old.bytes (line text); broken = old.broken })
Turns may_fail old text false new =
    (may_fail ≡ true) × (new.broken ≡ true) × WhereTrue old.broken (new.bytes ≡ old.bytes) (HasFront (line text) old.bytes new.bytes)
