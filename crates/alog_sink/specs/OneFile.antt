-- The file of a memory sink: its opening bytes, and then the joined lines.
use Rattle.std.specs.Prelude.{ℕ, List, [], ◌∷◌, ◌++◌}
use Rattle.alog_sink.specs.Files.{Files, bytes_of, with_file}

abbrev pub joined : List (List ℕ) → List ℕ
joined [] = []
joined (line ∷ lines) = line ++ joined lines

-- the files after these lines: without a line they are the opening ones
abbrev pub one_file : List ℕ → Files → List (List ℕ) → Files
one_file file opening [] = opening
one_file file opening (line ∷ lines) = with_file file (bytes_of opening file ++ joined (line ∷ lines)) opening
