-- What `alog pipe` does.
use Rattle.std.specs.Prelude.{◌≡◌, ◌≢◌, ◌≤◌, ◌⊎◌, ℕ, All, Bool, true, false, List, Option, None, Some, IsNone, Ok, codes}
use Rattle.std.specs.Io.KnownBytes.{Appends, Keeps}
use Rattle.std.specs.List.{position}
use Rattle.std.specs.Option.{option_map}
use Rattle.std.specs.Str.{bytes_eq}
use Rattle.alog_config.specs.Meaning.{Reads}
use Rattle.alog_config.specs.declared.config.Config.{Config}
use Rattle.alog_config.specs.declared.config.LoggerConfig.{LoggerConfig}
use Rattle.alog_patient.specs.declared.patience.Patience.{Patience}
use Rattle.alog_patient.specs.declared.patience.Patience.TheVariants.{Endless}
use Rattle.alog_pipe.specs.Pipes.{Pipes}
use Rattle.alog_pipe.specs.declared.counts.Counts.{Counts}
use Rattle.alog_pipe.specs.declared.piping.Piped.{Piped}
use Rattle.alog_pool.specs.declared.report.Totals.{Totals}
use Rattle.alog_server.specs.Stores.{IsNew, patience_of}
use Rattle.alog_sink.specs.Files.{Files}
use Rattle.alog_program.specs.Documents.{IsNoConfiguration}
use Rattle.alog_program.specs.Loaded.{HasNoFault, total_line, totals_text}
use Rattle.alog_program.specs.Options.{Refuses, Values}
use Rattle.alog_program.specs.PipeOptions.{AsksForPipe}
use Rattle.alog_program.specs.declared.options.FormatOption.TheVariants as option
use Rattle.alog_program.specs.declared.options.ValueError.{ValueError}
use Rattle.alog_program.specs.declared.request.PipeRequest.{PipeRequest}

-- whether a logger is asked for: by its name, or any
abbrev pub is_asked : Option (List ℕ) → LoggerConfig → Bool
is_asked None l = true
is_asked (Some name) l = bytes_eq l.name name

-- the number of the first logger that is asked for
abbrev pub logger_in : Config → Option (List ℕ) → Option ℕ
logger_in c name = position (is_asked name) c.loggers.items

-- the name that a request has
abbrev pub name_in : PipeRequest → Option (List ℕ)
name_in r = option_map (λ n. n.now) r.logger

-- the ten lines: what was read, what is missing, and the totals
abbrev pub told_text : Counts → ℕ → Totals → List ℕ
told_text c missing t =
    total_line (codes "lines ") c.lines (total_line (codes "bytes ") c.bytes (total_line (codes "mended ") c.mended
    (total_line (codes "cut ") c.cut (total_line (codes "missing ") missing (totals_text t)))))

-- nothing was read, and nothing was written on the output
abbrev pub IsUntouched : (before after old new : Option (List ℕ)) → Type 0
IsUntouched before after old new = Keeps before after × Keeps old new

-- over stores of this type, by what they tell, their files, their failures and how often they try a failed call again
module _ {S : Type 0} (tells : Bool) (files : S → Files) (failures : S → ℕ) (tries : S → Patience) where
  -- What came of a pipe, as it was asked for, of a configuration, over new stores that try again as often as that says, or without end.
  pub record IsPipeOf (c : Config) (r : PipeRequest) (before after : Option (List ℕ)) (p : Piped S) : Type 0 where
    pub stores : List S
    pub fresh : All (IsNew tells files failures) stores
    pub patient : All (λ s. tries s ≡ patience_of Endless c.retry) stores
    pub logger : ℕ
    pub named : logger_in c (name_in r) ≡ Some logger
    pub pipes : Pipes tells files failures c stores logger r.level before after p

  -- By the exit status, of a configuration. At 0 all was read and logged, no fault was counted, and the lines were written where they were
  -- asked for. At 1 no logger is the one that is asked for, and at 4, for whatever reason, there is no pipe: at both nothing was read or
  -- written. At 3 nothing was either, or a pipe was made; why it is 3 is not said.
  pub record PipesOn (c : Config) (r : PipeRequest) (status : ℕ) (before after old new : Option (List ℕ)) : Type 0 where
    pub done : status ≡ 0 → (p : Piped S) × IsPipeOf c r before after p × HasNoFault p.report × IsNone p.fault
        × (r.totals ≡ true → Appends old new (told_text p.counts p.missing p.report.totals)) × (r.totals ≡ false → Keeps old new)
    pub unknown : status ≡ 1 → (logger_in c (name_in r) ≡ None) × IsUntouched before after old new
    pub accepted : status ≢ 2
    pub fault : status ≡ 3 → IsUntouched before after old new ⊎ ((p : Piped S) × IsPipeOf c r before after p)
    pub unwritten : status ≡ 4 → IsUntouched before after old new
    pub due : logger_in c (name_in r) ≡ None → status ≡ 1
    pub others : status ≤ 4

  -- Of a document: it is no configuration, or there was no memory to read one, and nothing was read or written; or the lines went through
  -- the configuration that it is.
  abbrev pub PipesDocument : List ℕ → PipeRequest → ℕ → (before after old new : Option (List ℕ)) → Type 0
  PipesDocument document r status before after old new =
      ((status ≡ 2) × IsNoConfiguration document × IsUntouched before after old new) ⊎ ((status ≡ 4) × IsUntouched before after old new)
      ⊎ ((c : Config) × Reads document (Ok c) × PipesOn c r status before after old new)

  -- The same of a file, by some bytes, those that were read of it; or the status is 3 or 4, for whatever reason, and nothing was read of
  -- the lines or written.
  abbrev pub PipesFile : PipeRequest → ℕ → (before after old new : Option (List ℕ)) → Type 0
  PipesFile r status before after old new =
      ((document : List ℕ) × PipesDocument document r status before after old new)
      ⊎ (((status ≡ 3) ⊎ (status ≡ 4)) × IsUntouched before after old new)

  -- The same by the values of the command line: the pipe that they ask for, or its level is refused, or the status is 4, for whatever
  -- reason.
  abbrev pub PipesBy : Values → ℕ → (before after old new : Option (List ℕ)) → Type 0
  PipesBy values status before after old new =
      ((r : PipeRequest) × AsksForPipe values r × PipesFile r status before after old new)
      ⊎ ((status ≡ 1) × ((fault : ValueError) × Refuses values option.Level fault) × IsUntouched before after old new)
      ⊎ ((status ≡ 4) × IsUntouched before after old new)
