-- What is built of a configuration over stores: the loggers that it names, and the sinks.
use Rattle.std.specs.Prelude.{◌≡◌, ◌⊎◌, ◌+◌, ◌<◌, ℕ, Bool, List, [], ◌∷◌, map, take, slice_get, count_by, Option, Some, option_map, IfSome}
use Rattle.std.specs.List.{Any}
use Rattle.std.specs.declared.io.Error.{Error}
use Rattle.alog_config.specs.declared.building.BuildError.{BuildError}
use Rattle.alog_config.specs.declared.building.BuildError.TheVariants as faults
use Rattle.alog_config.specs.declared.config.Config.{Config}
use Rattle.alog_config.specs.declared.config.LoggerConfig.{LoggerConfig}
use Rattle.alog_config.specs.declared.config.SinkConfig.{SinkConfig}
use Rattle.alog_config.specs.declared.config.SinkKind.{SinkKind}
use Rattle.alog_config.specs.declared.config.SinkKind.TheVariants as kinds
use Rattle.alog_config.specs.declared.config.Upkeep.{Upkeep}
use Rattle.alog_config.specs.declared.config.Upkeep.TheVariants as upkeeps
use Rattle.alog_config.specs.declared.parts.Part.{Part}
use Rattle.alog_config.specs.Sinks.{IsMember, Rotates, is_leaf}
use Rattle.alog_msg.specs.declared.level.Level.{Level}
use Rattle.alog_pattern.specs.Grammar.{IsReading}
use Rattle.alog_registry.specs.declared.logger.Logger.{Logger}
use Rattle.alog_sink.specs.DailyFiles.{change_at}
use Rattle.alog_sink.specs.Files.{Files}
use Rattle.alog_sink.specs.Opened.{Opened, leaves_of, store_of}
use Rattle.alog_sink.specs.Refused.{IsNewDaily, IsRotating}
use Rattle.alog_sink.specs.declared.TheConstants.{FAILURES_MAX}
use Rattle.alog_sink.specs.declared.face.Face.{Face}
use Rattle.alog_sink.specs.declared.sink.Sink.{Sink}
use Rattle.alog_sink.specs.declared.sink.Sink.TheVariants as built
use Rattle.alog_sink.specs.declared.target.Target.{Target}
use Rattle.alog_sink.specs.declared.target.Target.TheVariants as targets

-- The face of a sink of this level and pattern: the rest is what the configuration says for all sinks.
pub record IsFaceOf (c : Config) (least : Level) (pattern : List ℕ) (face : Face) : Type 0 where
  pub level : face.level ≡ least
  pub items : IsReading pattern face.pattern.items
  pub limit : face.pattern.text_limit ≡ c.text
  pub zone : face.context.zone ≡ c.zone
  pub process : face.context.process ≡ c.process
  pub names : face.names ≡ map (λ (l : LoggerConfig). l.name) c.loggers.items

-- files of this name and upkeep, of which none was opened yet
abbrev pub IsTargetOf : List ℕ → Upkeep → Target → Type 0
IsTargetOf file upkeeps.Never target = target ≡ targets.Memory (record { file = file })
IsTargetOf file (upkeeps.BySize max_size max_files) target =
    IsRotating (record { file = file; max_size = max_size; max_files = max_files }) target
IsTargetOf file (upkeeps.Daily hour minute max_files) target =
    IsNewDaily (record { file = file; change = change_at hour minute; max_files = max_files }) target

-- two lists go together, item by item
abbrev pub EachIs : {A B : Type 0} → (A → B → Type 0) → List A → List B → Type 0
EachIs Is [] [] = Unit {0}
EachIs Is (a ∷ all) (b ∷ bs) = Is a b × EachIs Is all bs
EachIs Is _ _ = ⊥

-- the items of a list that are such, in their order
abbrev pub ArePicked : {A : Type 0} → (A → Type 0) → List A → List A → Type 0
ArePicked IsSuch [] picked = picked ≡ []
ArePicked {A} IsSuch (a ∷ all) picked =
    ((rest : List A) × IsSuch a × (picked ≡ a ∷ rest) × ArePicked IsSuch all rest) ⊎ ((¬ IsSuch a) × ArePicked IsSuch all picked)

-- what was built of the sink of this name
abbrev pub IsNamed : {S : Type 0} → List (Part S) → List ℕ → Sink S → Type 0
IsNamed {S} parts name sink = Any (λ (p : Part S). (p.config.now.name ≡ name) × (p.sink ≡ sink)) parts

-- the sink of this name has this place
abbrev pub IsPlace : {S : Type 0} → List (Part S) → List ℕ → ℕ → Type 0
IsPlace {S} parts name n = option_map (λ (p : Part S). p.config.now.name) (slice_get parts n) ≡ Some name

-- The logger that a configuration says, whose sinks are these.
pub record IsLoggerOf {S : Type 0} (tops : List (Part S)) (l : LoggerConfig) (logger : Logger) : Type 0 where
  pub name : logger.name ≡ l.name
  pub level : logger.spec.level ≡ l.level
  pub policy : logger.spec.policy ≡ l.policy
  pub flush_on : logger.spec.flush_on ≡ l.flush_on
  pub backtrace : logger.spec.backtrace ≡ l.backtrace
  pub sinks : EachIs (IsPlace tops) l.sinks logger.spec.sinks.items

-- a store failed when its sink was opened
abbrev pub IsStoreFault : BuildError → Type 0
IsStoreFault (faults.Store sink reason) = Unit {0}
IsStoreFault faults.OutOfMemory = ⊥

-- A call of a store failed, as it counts, and for this reason, as it says.
abbrev pub HasFailed : {S : Type 0} → (S → ℕ) → (S → Option Error) → S → Option Error → Type 0
HasFailed {S} failures why store reason =
    (after : S) × (failures store < FAILURES_MAX → failures after ≡ failures store + 1) × (reason ≡ why after)

-- a store's fault is told of the sink of this number, for this reason
abbrev pub TellsFault : ℕ → Option Error → BuildError → Type 0
TellsFault number reason (faults.Store sink own) = (sink ≡ number) × (own ≡ reason)
TellsFault number reason faults.OutOfMemory = Unit {0}

-- a store's fault is told of the sink of this number, and is that of this store
abbrev pub IsFaultOver : {S : Type 0} → (S → ℕ) → (S → Option Error) → ℕ → S → BuildError → Type 0
IsFaultOver failures why number store (faults.Store sink reason) = (sink ≡ number) × HasFailed failures why store reason
IsFaultOver failures why number store faults.OutOfMemory = Unit {0}

-- a store's fault is told of the sink of this number, and is that of the first of these stores
abbrev pub IsFaultOfNext : {S : Type 0} → (S → ℕ) → (S → Option Error) → ℕ → List S → BuildError → Type 0
IsFaultOfNext {S} failures why number stores (faults.Store sink reason) =
    (sink ≡ number) × (store : S) × (rest : List S) × (stores ≡ store ∷ rest) × HasFailed failures why store reason
IsFaultOfNext failures why number stores faults.OutOfMemory = Unit {0}

-- The sink of this number rotates its file by size, and the store of its number among those that need one failed for this reason.
pub record IsUnopened {S : Type 0} (failures : S → ℕ) (why : S → Option Error) (sinks : List SinkConfig) (stores : List S) (number : ℕ)
    (reason : Option Error) : Type 0 where
  pub sink : SinkConfig
  pub at : slice_get sinks number ≡ Some sink
  pub rotates : Rotates sink
  pub store : S
  pub own : slice_get stores (count_by is_leaf (take number sinks)) ≡ Some store
  pub failed : HasFailed failures why store reason

-- why nothing was built: a store's fault is told of the sink that was to have that store
abbrev pub IsFaultOf : {S : Type 0} → (S → ℕ) → (S → Option Error) → List SinkConfig → List S → BuildError → Type 0
IsFaultOf failures why sinks stores (faults.Store sink reason) = IsUnopened failures why sinks stores sink reason
IsFaultOf failures why sinks stores faults.OutOfMemory = Unit {0}

module _ {S : Type 0} (tells : Bool) (files : S → Files) (failures : S → ℕ) where
  -- the store that a sink has is the one that it was given, which did not fail
  abbrev pub IsOver : Upkeep → S → Option S → Type 0
  IsOver upkeeps.Never store held = held ≡ Some store
  IsOver (upkeeps.BySize max_size max_files) store held = IfSome held (λ s. failures s ≡ failures store)
  IsOver (upkeeps.Daily hour minute max_files) store held = held ≡ Some store

  -- A sink was opened over this store, and was given nothing.
  pub record IsLeafOf (c : Config) (level : Level) (file : List ℕ) (pattern : List ℕ) (upkeep : Upkeep) (store : S) (sink : Sink S)
      : Type 0 where
    pub face : Face
    pub is : IsFaceOf c level pattern face
    pub opened : Opened tells files face (IsTargetOf file upkeep) (files store) sink
    pub over : IsOver upkeep store (store_of sink)

  -- The sink of this number is built: over the store of its number among those that need one, or of its members.
  abbrev pub IsBuiltAs : Config → List S → List (Part S) → ℕ → Level → SinkKind → Sink S → Type 0
  IsBuiltAs c stores parts n level (kinds.Lines file pattern upkeep) sink =
      (store : S) × (slice_get stores (count_by is_leaf (take n c.sinks.items)) ≡ Some store)
      × IsLeafOf c level file pattern upkeep store sink
  IsBuiltAs c stores parts n level (kinds.Fan of) sink =
      (members : List (Sink S)) × EachIs (IsNamed parts) of members
      × (sink ≡ built.Fan (record { level = level; members = leaves_of members }))

  abbrev pub IsPart : Config → List S → List (Part S) → ℕ → Part S → Type 0
  IsPart c stores parts n p = IsBuiltAs c stores parts n p.config.now.level p.config.now.kind p.sink

  -- What is built of a configuration: each sink that is no fan's member, in their order, and the loggers, whose sinks have
  -- their places among these.
  pub record Built (c : Config) (stores : List S) (made : List Logger) (opened : List (Sink S)) : Type 0 where
    pub parts : List (Part S)
    pub of : map (λ (p : Part S). p.config.now) parts ≡ c.sinks.items
    pub each : (n : ℕ) (p : Part S) → slice_get parts n ≡ Some p → IsPart c stores parts n p
    pub tops : List (Part S)
    pub picked : ArePicked (λ (p : Part S). ¬ IsMember c.sinks.items p.config.now.name) parts tops
    pub sinks : opened ≡ map (λ (p : Part S). p.sink) tops
    pub loggers : EachIs (IsLoggerOf tops) c.loggers.items made
