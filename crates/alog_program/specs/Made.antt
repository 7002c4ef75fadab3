-- What is made of a command line that was understood, and what is answered to one that was not.
use Rattle.std.specs.Prelude.{◌≡◌, ◌≢◌, ◌↔◌, ℕ, Bool, List, Option, None, Some, MatchOption}
use Rattle.std.specs.Io.KnownBytes.{Keeps}
use Rattle.clap.specs.Words.{kind_of}
use Rattle.clap.specs.declared.error.kind.ErrorKind.TheVariants.{OutOfMemory}
use Rattle.alog_patient.specs.declared.patience.Patience.{Patience}
use Rattle.alog_sink.specs.Files.{Files}
use Rattle.alog_sink.specs.declared.mem_store.MemStore.{MemStore}
use Rattle.alog_program.specs.Checks.{ChecksFile}
use Rattle.alog_program.specs.Line.{IsRefused, WritesLineOf}
use Rattle.alog_program.specs.Loaded.{LoadsFile}
use Rattle.alog_program.specs.Piped.{PipesFile}
use Rattle.alog_program.specs.Replays.{Replays, ReplaysFile}
use Rattle.alog_program.specs.declared.request.Request.{Request}
use Rattle.alog_program.specs.declared.request.Request.TheVariants.{Replay, ReplayConfig, Format, Check, Load, Pipe}
use Rattle.alog_program.specs.declared.words.WordsError.{WordsError}
use Rattle.alog_program.specs.declared.words.WordsError.TheVariants.{Clap, Value, LoadValue}

-- over stores in memory and those of a folder, by what they tell, their files and their failures, and how often those of the folder try again
module _ {F : Type 0} (tells : Bool) (files : MemStore → Files) (failures : MemStore → ℕ) (tells2 : Bool) (files2 : F → Files)
    (failures2 : F → ℕ) (tries2 : F → Patience) where
  -- by the exit status, what a request asks for was made
  abbrev pub Makes : Request → ℕ → (before after old new : Option (List ℕ)) → Type 0
  Makes Replay status before after old new = Replays status before after old new
  Makes (ReplayConfig file) status before after old new = ReplaysFile tells files failures status before after old new
  Makes (Format r) status before after old new =
      (status ≢ 1) × (status ≡ 0 → WritesLineOf r old new) × (status ≡ 2 → IsRefused r × Keeps old new)
  Makes (Check file) status before after old new = ChecksFile status old new
  Makes (Load r) status before after old new =
      MatchOption r.folder (LoadsFile tells files failures None r status old new)
      (λ _. LoadsFile tells2 files2 failures2 (Some tries2) r status old new)
  Makes (Pipe r) status before after old new = PipesFile tells2 files2 failures2 tries2 r status before after old new

-- a refused value has status 1, and what `clap` says has 4 for want of memory alone; at both nothing was written
abbrev pub IsAnswerTo : WordsError → ℕ → (old new : Option (List ℕ)) → Type 0
IsAnswerTo (Clap error) status old new = ((status ≡ 4) ↔ (kind_of error ≡ OutOfMemory)) × (status ≡ 4 → Keeps old new)
IsAnswerTo (Value fault) status old new = (status ≡ 1) × Keeps old new
IsAnswerTo (LoadValue fault) status old new = (status ≡ 1) × Keeps old new
