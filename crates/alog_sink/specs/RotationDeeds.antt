-- A rotation: what it does to files for a line, and the lines that it and the files stand for.
use Rattle.std.specs.Prelude.{◌≡◌, ℕ, zero, suc, ◌+◌, ◌<◌, nat_lt, ◌&&◌, Bool, if◌then◌else◌, List, [], ◌∷◌, ◌++◌, length, get_or}
use Rattle.alog_sink.specs.Deeds.{Deed, Append, Rename, Remove}
use Rattle.alog_sink.specs.Files.{Files, bytes_of}
use Rattle.alog_sink.specs.Names.{numbered}
use Rattle.alog_sink.specs.Rotation.{Limits, IsRotated}

-- the limits, and how many bytes are counted in the base
pub record Rotating : Type 0 where
  pub limits : Limits
  pub size : ℕ

-- from number n down, each number below is renamed to it
abbrev pub renames : List ℕ → ℕ → List Deed
renames file zero = []
renames file (suc i) = Rename (numbered file i) (numbered file (suc i)) ∷ renames file i

-- the base is given up: renamed, after the numbers above it, or removed where no further file is kept
abbrev pub gives_up : List ℕ → ℕ → List Deed
gives_up file zero = Remove file ∷ []
gives_up file (suc i) = renames file (suc i)

-- whether the base is given up before a line of so many bytes: it is not empty, and the line would make it larger than max_size
abbrev pub is_full_for : Rotating → ℕ → Bool
is_full_for r bytes = nat_lt 0 r.size && nat_lt r.limits.max_size (r.size + bytes)

-- the deeds before such a line, and how many bytes the base has then
abbrev pub makes_room : Rotating → ℕ → List Deed
makes_room r bytes = if is_full_for r bytes then gives_up r.limits.file r.limits.max_files else []

abbrev pub size_left : Rotating → ℕ → ℕ
size_left r bytes = if is_full_for r bytes then 0 else r.size

-- the deeds of a line; an empty line has none
abbrev pub deeds_of : Rotating → List ℕ → List Deed
deeds_of r [] = []
deeds_of r (b ∷ line) = makes_room r (length (b ∷ line)) ++ Append r.limits.file (b ∷ line) ∷ []

-- the rotation after a line
abbrev pub with_line : Rotating → List ℕ → Rotating
with_line r [] = r
with_line r (b ∷ line) = record r { size = size_left r (length (b ∷ line)) + length (b ∷ line) }

-- The rotation and these files stand for the opening files and the lines: the files are those, and the size is the base's.
pub record StandsFor (r : Rotating) (opening : Files) (lines : List (List ℕ)) (files : Files) : Type 0 where
  pub rotated : IsRotated r.limits opening lines files
  pub counted : r.size ≡ length (bytes_of files r.limits.file)

-- the base's name, the first of the names
abbrev pub base_name : List (List ℕ) → List ℕ
base_name names = get_or names 0 []

-- names that are, from number 0 on, those of a file
abbrev pub AreNumbersOf : List ℕ → List (List ℕ) → Type 0
AreNumbersOf file names = (i : ℕ) → i < length names → get_or names i [] ≡ numbered file i
