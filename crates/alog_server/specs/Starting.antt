-- A server that starts.
use Rattle.std.specs.Prelude.{◌≡◌, ℕ, All, Bool, List, Ok, Err}
use Rattle.std.specs.List.{Any}
use Rattle.alog_config.specs.Meaning.{Reads}
use Rattle.alog_config.specs.Sinks.{Rotates}
use Rattle.alog_config.specs.declared.config.Config.{Config}
use Rattle.alog_config.specs.declared.fault.ConfigFault.{ConfigFault}
use Rattle.alog_patient.specs.declared.patience.Patience.{Patience}
use Rattle.alog_patient.specs.declared.patience.Patience.TheVariants.{Times}
use Rattle.alog_pool.specs.Pool.{PoolView, Starts}
use Rattle.alog_pool.specs.declared.setup.Setup.{Setup}
use Rattle.alog_sink.specs.Files.{Files}
use Rattle.alog_server.specs.Setting.{IsSetupOf}
use Rattle.alog_server.specs.SinkEnds.{TellsSinks}
use Rattle.alog_server.specs.Stores.{IsNew, patience_of}
use Rattle.alog_server.specs.declared.error.StartError.{StartError}
use Rattle.alog_server.specs.declared.error.StartError.TheVariants as start
use Rattle.alog_server.specs.declared.sink_end.SinkEnd.{SinkEnd}

-- the reason that this fault of a document is
abbrev pub IsOfFault : ConfigFault → StartError → Type 0
IsOfFault fault (start.Config own text) = own ≡ fault
IsOfFault fault (start.Unwritable text) = ⊥
IsOfFault fault (start.Store text) = ⊥
IsOfFault fault start.OutOfMemory = Unit {0}

-- a reason that is neither the document's nor the folder's: a store failed only where a sink rotates its file
abbrev pub IsOfStores : Config → StartError → Type 0
IsOfStores c (start.Config fault text) = ⊥
IsOfStores c (start.Unwritable text) = ⊥
IsOfStores c (start.Store text) = Any Rotates c.sinks.items
IsOfStores c start.OutOfMemory = Unit {0}

-- when a start over this document is refused so
abbrev pub IsReasonFor : List ℕ → StartError → Type 0
IsReasonFor document (start.Config fault text) = Reads document (Err fault)
IsReasonFor document (start.Unwritable text) = (c : Config) × Reads document (Ok c)
IsReasonFor document (start.Store text) = (c : Config) × Reads document (Ok c) × Any Rotates c.sinks.items
IsReasonFor document start.OutOfMemory = Unit {0}

module _ {S : Type 0} (tells : Bool) (files : S → Files) (failures : S → ℕ) where
  -- The pool was started with what the configuration gives over these stores, and tells no tickets; the sinks are those of the
  -- configuration.
  pub record IsServerOf (c : Config) (stores : List S) (pool : PoolView S) (sinks : List SinkEnd) : Type 0 where
    pub setup : Setup S
    pub given : IsSetupOf tells files failures c stores 0 setup
    pub starts : Starts setup pool
    pub told : TellsSinks c sinks

  -- It was started with what the document says, over new stores, each of which tries a failed call again as often as that says, or not at
  -- all.
  pub record IsServerOn (tries : S → Patience) (document : List ℕ) (pool : PoolView S) (sinks : List SinkEnd) : Type 0 where
    pub config : Config
    pub reads : Reads document (Ok config)
    pub stores : List S
    pub fresh : All (IsNew tells files failures) stores
    pub patient : All (λ s. tries s ≡ patience_of (Times 0) config.retry) stores
    pub server : IsServerOf config stores pool sinks
