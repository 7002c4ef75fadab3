-- What `alog load` does.
use Rattle.std.specs.Prelude.{◌≡◌, ◌≢◌, ◌≤◌, ◌⊎◌, ℕ, All, Bool, List, [], ◌∷◌, ◌++◌, Option, IfSome, Ok, codes}
use Rattle.std.specs.Fmt.{decimal}
use Rattle.std.specs.Io.KnownBytes.{Appends, Keeps}
use Rattle.alog_config.specs.Meaning.{Reads}
use Rattle.alog_config.specs.declared.config.Config.{Config}
use Rattle.alog_load.specs.Load.{AreBad, Loads}
use Rattle.alog_patient.specs.declared.patience.Patience.{Patience}
use Rattle.alog_patient.specs.declared.patience.Patience.TheVariants.{Times}
use Rattle.alog_pool.specs.declared.report.Report.{Report}
use Rattle.alog_pool.specs.declared.report.Totals.{Totals}
use Rattle.alog_server.specs.Stores.{IsNew, patience_of}
use Rattle.alog_sink.specs.Files.{Files}
use Rattle.alog_program.specs.Documents.{IsNoConfiguration}
use Rattle.alog_program.specs.LoadOptions.{AsksForLoad, IsFirstUnread}
use Rattle.alog_program.specs.Options.{Values}
use Rattle.alog_program.specs.declared.load_options.LoadValueError.{LoadValueError}
use Rattle.alog_program.specs.declared.request.LoadRequest.{LoadRequest}

-- the number in decimal digits behind its name, a newline, and the rest
abbrev pub total_line : List ℕ → ℕ → List ℕ → List ℕ
total_line name number rest = name ++ (decimal number ++ 10 ∷ rest)

-- the five lines of totals
abbrev pub totals_text : Totals → List ℕ
totals_text t =
    total_line (codes "asked ") t.asked (total_line (codes "posted ") t.posted (total_line (codes "discarded ") t.discarded
    (total_line (codes "overrun ") t.overrun (total_line (codes "handled ") t.handled []))))

-- no turn at a sink was answered by a fault, as far as the report counts them
abbrev pub HasNoFault : {S : Type 0} → Report S → Type 0
HasNoFault report = All (λ n. n ≡ 0) report.faults.items

-- stores that try a failed call again do so as often as the configuration says, or not at all; those in memory have no such number
abbrev pub ArePatient : {S : Type 0} → Option (S → Patience) → Config → List S → Type 0
ArePatient tries c stores = IfSome tries (λ t. All (λ s. t s ≡ patience_of (Times 0) c.retry) stores)

-- over stores of this type, by what they tell, their files, their failures, and how often they try a failed call again, if they do
module _ {S : Type 0} (tells : Bool) (files : S → Files) (failures : S → ℕ) (tries : Option (S → Patience)) where
  -- The report of a load, as it was asked for, of a configuration, over new stores that try again as often as that says.
  pub record IsReportOf (c : Config) (r : LoadRequest) (report : Report S) : Type 0 where
    pub stores : List S
    pub fresh : All (IsNew tells files failures) stores
    pub patient : ArePatient tries c stores
    pub loads : Loads tells files failures c stores r.producers r.messages report

  -- By the exit status, of a configuration: a load was made, no fault was counted, and its totals were written; or the numbers are out
  -- of their bounds, or there was no memory, and nothing was written; or a store failed at first, and nothing was written, or a load
  -- was made, in which a store failed, or a write failed after it.
  pub record LoadsOn (c : Config) (r : LoadRequest) (status : ℕ) (old new : Option (List ℕ)) : Type 0 where
    pub done : status ≡ 0 → (report : Report S) × IsReportOf c r report × HasNoFault report × Appends old new (totals_text report.totals)
    pub bad : status ≡ 1 → AreBad r.producers r.messages × Keeps old new
    pub accepted : status ≢ 2
    pub fault : status ≡ 3 → Keeps old new ⊎ ((report : Report S) × IsReportOf c r report)
    pub unwritten : status ≡ 4 → Keeps old new
    pub due : AreBad r.producers r.messages → (status ≡ 1) ⊎ (status ≡ 4)
    pub others : status ≤ 4

  -- Of a document: it is no configuration, or there was no memory to read one, and nothing was written; or the load was made of the
  -- configuration that it is.
  abbrev pub LoadsDocument : List ℕ → LoadRequest → ℕ → Option (List ℕ) → Option (List ℕ) → Type 0
  LoadsDocument document r status old new =
      ((status ≡ 2) × IsNoConfiguration document × Keeps old new) ⊎ ((status ≡ 4) × Keeps old new)
      ⊎ ((c : Config) × Reads document (Ok c) × LoadsOn c r status old new)

  -- The same of a file, by the bytes that were read of it; or it could not be read, or there was no memory, and nothing was
  -- written.
  abbrev pub LoadsFile : LoadRequest → ℕ → Option (List ℕ) → Option (List ℕ) → Type 0
  LoadsFile r status old new =
      ((document : List ℕ) × LoadsDocument document r status old new) ⊎ (((status ≡ 3) ⊎ (status ≡ 4)) × Keeps old new)

  -- The same by the values of the command line: the load that they ask for, or one of them is refused, or there was no memory to
  -- read them, and nothing was written.
  abbrev pub LoadsBy : Values → ℕ → Option (List ℕ) → Option (List ℕ) → Type 0
  LoadsBy values status old new =
      ((r : LoadRequest) × AsksForLoad values r × LoadsFile r status old new)
      ⊎ ((status ≡ 1) × ((fault : LoadValueError) × IsFirstUnread values fault) × Keeps old new) ⊎ ((status ≡ 4) × Keeps old new)
