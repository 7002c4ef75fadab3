-- What `alog check` does.
use Rattle.std.specs.Prelude.{◌≡◌, ◌⊎◌, ℕ, List, [], ◌∷◌, ◌++◌, Option, Ok, codes}
use Rattle.std.specs.Io.KnownBytes.{Appends, Keeps}
use Rattle.alog_config.specs.Meaning.{Reads}
use Rattle.alog_config.specs.declared.config.Config.{Config}
use Rattle.alog_program.specs.Documents.{IsNoConfiguration}

abbrev pub SaysOk : Option (List ℕ) → Option (List ℕ) → Type 0
SaysOk old new = Appends old new (codes "ok" ++ 10 ∷ [])

-- By the exit status, of a document: it is a configuration, which was said; or it is refused, and nothing was written; or
-- there was no memory, or a write failed.
pub record Checks (document : List ℕ) (status : ℕ) (old new : Option (List ℕ)) : Type 0 where
  pub ok : status ≡ 0 → ((c : Config) × Reads document (Ok c)) × SaysOk old new
  pub refused : status ≡ 2 → IsNoConfiguration document × Keeps old new
  pub unwritten : status ≡ 4 → Keeps old new
  pub others : (status ≡ 0) ⊎ (status ≡ 2) ⊎ (status ≡ 3) ⊎ (status ≡ 4)

-- The same of a file, by the bytes that were read of it; or it could not be read, or there was no memory, and nothing was
-- written.
abbrev pub ChecksFile : ℕ → Option (List ℕ) → Option (List ℕ) → Type 0
ChecksFile status old new =
    ((document : List ℕ) × Checks document status old new) ⊎ (((status ≡ 3) ⊎ (status ≡ 4)) × Keeps old new)
