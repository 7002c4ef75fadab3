-- Files that are rotated: the pieces that were written, their runs, and which file each run is in.
use Rattle.std.specs.Prelude.{◌≡◌, ◌≢◌, ℕ, ◌+◌, ◌<◌, ◌≤◌, nat_lt, if◌then◌else◌, Bool, true, false, Option, None, Some}
use Rattle.std.specs.Prelude.{List, [], ◌∷◌, ◌++◌, length, drop, map, reverse, get_or}
use Rattle.std.specs.List.{All, concat, filter, flat_map, range_with_len}
use Rattle.alog_sink.specs.Files.{Files, bytes_of}
use Rattle.alog_sink.specs.Names.{numbered}

-- The base, how many bytes it is to have at most, and how many further files there are.
pub record Limits : Type 0 where
  pub file : List ℕ
  pub max_size : ℕ
  pub max_files : ℕ

-- what has a byte
abbrev pub has_bytes : List ℕ → Bool
has_bytes [] = false
has_bytes (b ∷ bytes) = true

-- The pieces: the opening base and the lines, those that are not empty.
abbrev pub pieces : List ℕ → List (List ℕ) → List (List ℕ)
pieces base lines = filter has_bytes (base ∷ lines)

-- pieces that stand in one file, one after another
abbrev pub Run : Type 0
Run = List (List ℕ)

-- how many bytes the pieces of a run have together
abbrev pub size_of : Run → ℕ
size_of run = length (concat run)

-- One or more pieces: more than one have at most max_size bytes.
pub record IsRun (max_size : ℕ) (run : Run) : Type 0 where
  pub some : 1 ≤ length run
  pub fits : 1 < length run → size_of run ≤ max_size

-- A run has more than max_size bytes together with the first piece of the next, if there is a next.
abbrev pub IsFull : ℕ → Run → List Run → Type 0
IsFull max_size run ((piece ∷ _) ∷ _) = max_size < size_of run + length piece
IsFull max_size run _ = Unit {0}

abbrev pub AreFull : ℕ → List Run → Type 0
AreFull max_size [] = Unit {0}
AreFull max_size (run ∷ runs) = IsFull max_size run runs × AreFull max_size runs

-- Pieces are cut into runs, each as long as it may be.
pub record IsCut (max_size : ℕ) (pieces : List (List ℕ)) (runs : List Run) : Type 0 where
  pub joined : flat_map (λ run. run) runs ≡ pieces
  pub each : All (IsRun max_size) runs
  pub full : AreFull max_size runs

-- Pieces are cut in exactly one way.
abbrev pub PiecesHaveOneCut : Type 0
PiecesHaveOneCut = (max_size : ℕ) (pieces : List (List ℕ))
    → (runs : List Run) × IsCut max_size pieces runs × ((others : List Run) → IsCut max_size pieces others → others ≡ runs)

-- The files by place: the run that stands j runs before the last has place j, and behind the runs come the opening files of
-- the numbers 1 to max_files.
abbrev pub places : Limits → Files → List Run → List (Option (List ℕ))
places limits opening runs =
    map (λ run. Some (concat run)) (reverse runs) ++ map (λ i. opening (numbered limits.file i)) (range_with_len 1 limits.max_files)

-- the first of them that is there
abbrev pub first_there : List (Option (List ℕ)) → Option (List ℕ)
first_there [] = None
first_there (None ∷ files) = first_there files
first_there (Some bytes ∷ files) = Some bytes

-- The file of a number: below max_files that of this place, and for max_files that of the least place from max_files on.
abbrev pub of_number : ℕ → List (Option (List ℕ)) → ℕ → Option (List ℕ)
of_number max_files files i = if nat_lt i max_files then get_or files i None else first_there (drop max_files files)

-- the files by number; as long as there is no piece they are the opening ones
abbrev pub kept : Limits → Files → List Run → ℕ → Option (List ℕ)
kept limits opening [] i = opening (numbered limits.file i)
kept limits opening (run ∷ runs) i = of_number limits.max_files (places limits opening (run ∷ runs)) i

-- After these lines the opening files are these: the numbers 0, which is the base, to max_files are by the one cut of the
-- pieces, and every other file is as it was.
pub record IsRotated (limits : Limits) (opening : Files) (lines : List (List ℕ)) (files : Files) : Type 0 where
  pub runs : List Run
  pub cut : IsCut limits.max_size (pieces (bytes_of opening limits.file) lines) runs
  pub numbers : (i : ℕ) → i ≤ limits.max_files → files (numbered limits.file i) ≡ kept limits opening runs i
  pub others : (name : List ℕ) → ((i : ℕ) → i ≤ limits.max_files → numbered limits.file i ≢ name) → files name ≡ opening name
