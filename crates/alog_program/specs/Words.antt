-- Command lines.
use Rattle.std.specs.Prelude.{◌≡◌, ◌⊎◌, ℕ, List, [], ◌∷◌, codes}
use Rattle.clap.specs.declared.error.kind.ErrorKind.{ErrorKind}
use Rattle.clap.specs.declared.error.kind.ErrorKind.TheVariants.{DisplayHelp, DisplayVersion, OutOfMemory}
use Rattle.clap.specs.declared.error.Error.{Error}
use Rattle.clap.specs.Words.{kind_of}
use Rattle.alog_program.specs.declared.words.WordsError.{WordsError}
use Rattle.alog_program.specs.declared.words.WordsError.TheVariants.{Clap}

-- `alog replay`, whatever name the program was called by
abbrev pub AsksReplay : List (List ℕ) → Type 0
AsksReplay words = (name : List ℕ) × (words ≡ name ∷ codes "replay" ∷ [])

-- help or the version was asked for, which is no fault
abbrev pub IsAskedFor : ErrorKind → Type 0
IsAskedFor kind = (kind ≡ DisplayHelp) ⊎ (kind ≡ DisplayVersion)

-- there was no memory to read the command line
abbrev pub IsOutOfMemory : WordsError → Type 0
IsOutOfMemory fault = (error : Error) × (fault ≡ Clap error) × (kind_of error ≡ OutOfMemory)
