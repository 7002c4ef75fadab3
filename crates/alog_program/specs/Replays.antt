-- What `alog replay` does, with a configuration and without one.
use Rattle.std.specs.Prelude.{◌≡◌, ◌≢◌, ◌≤◌, ◌⊎◌, ℕ, Bool, true, List, Option, None, Ok, IfSome}
use Rattle.std.specs.Io.KnownBytes.{Keeps}
use Rattle.alog_config.specs.Meaning.{Reads}
use Rattle.alog_config.specs.declared.config.Config.{Config}
use Rattle.alog_replay.specs.Configured.{configured}
use Rattle.alog_replay.specs.OfConfig.{OnStage}
use Rattle.alog_replay.specs.Plain.{plain}
use Rattle.alog_replay.specs.Script.{Whole, RefusedAt, WritesText, WritesFront, WasRead}
use Rattle.alog_replay.specs.Rows.{row_of}
use Rattle.alog_sink.specs.Files.{Files}
use Rattle.alog_sink.specs.declared.mem_store.MemStore.{MemStore}
use Rattle.alog_program.specs.Documents.{IsNoConfiguration}

-- By the exit status: the script's whole text was written, or what a refused line leaves, or at another fault nothing or
-- a front of what those bytes tell that were read. The command line is not at fault.
pub record Replays (status : ℕ) (remaining left old new : Option (List ℕ)) : Type 0 where
  pub understood : status ≢ 1
  pub whole : status ≡ 0 → IfSome remaining (λ script. (n : ℕ) × WritesText (plain true) None script (λ text. Whole text n) old new)
  pub refused : status ≡ 2 → IfSome remaining (λ script. (line : ℕ) × WritesText (plain true) None script (RefusedAt line) old new)
  pub front : 3 ≤ status → Keeps old new ⊎ WasRead remaining left (λ read. WritesFront (plain true) None read old new)

-- nothing was read of the script, and nothing was written
abbrev pub IsUntouched : Option (List ℕ) → Option (List ℕ) → Option (List ℕ) → Option (List ℕ) → Type 0
IsUntouched remaining left old new = (left ≡ remaining) × Keeps old new

-- the same over stores in memory, by what they tell, their files and their failures
module _ (tells : Bool) (files : MemStore → Files) (failures : MemStore → ℕ) where
  -- The same on a stage of a configuration.
  pub record ReplaysOn (c : Config) (status : ℕ) (remaining left old new : Option (List ℕ)) : Type 0 where
    pub understood : status ≢ 1
    pub whole : status ≡ 0 → IfSome remaining (λ script. (n : ℕ) × OnStage tells files failures c (λ s.
        WritesText (configured tells files failures row_of) s script (λ text. Whole text n) old new))
    pub refused : status ≡ 2 → IfSome remaining (λ script. (line : ℕ) × OnStage tells files failures c (λ s.
        WritesText (configured tells files failures row_of) s script (RefusedAt line) old new))
    pub front : 3 ≤ status → Keeps old new ⊎ OnStage tells files failures c (λ s. WasRead remaining left (λ read.
        WritesFront (configured tells files failures row_of) s read old new))

  -- With a document: it is no configuration, or there was no memory to read one, and then nothing else was done; or the
  -- script was replayed on the configuration that it is.
  abbrev pub ReplaysDocument : List ℕ → ℕ → Option (List ℕ) → Option (List ℕ) → Option (List ℕ) → Option (List ℕ) → Type 0
  ReplaysDocument document status remaining left old new =
      ((status ≡ 2) × IsNoConfiguration document × IsUntouched remaining left old new)
      ⊎ ((status ≡ 4) × IsUntouched remaining left old new)
      ⊎ ((c : Config) × Reads document (Ok c) × ReplaysOn c status remaining left old new)

  -- With a file, by the bytes that were read of it; or it could not be read, or there was no memory, and nothing else was done.
  abbrev pub ReplaysFile : ℕ → Option (List ℕ) → Option (List ℕ) → Option (List ℕ) → Option (List ℕ) → Type 0
  ReplaysFile status remaining left old new =
      ((document : List ℕ) × ReplaysDocument document status remaining left old new)
      ⊎ (((status ≡ 3) ⊎ (status ≡ 4)) × IsUntouched remaining left old new)
