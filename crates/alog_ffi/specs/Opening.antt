-- How a pool is opened of a document.
use Rattle.std.specs.Prelude.{◌≡◌, ◌≢◌, ◌++◌, ℕ, true, List, [], ◌∷◌, count_by, drop, length, min, take, Option, None, Ok, Err, Vec}
use Rattle.std.specs.declared.alloc.Global.{Global}
use Rattle.std.specs.declared.io.Error.{Error}
use Rattle.std.specs.Str.{IsUtf8}
use Rattle.alog_config.specs.Built.{IsFaultOf}
use Rattle.alog_config.specs.Meaning.{Reads}
use Rattle.alog_config.specs.Sinks.{is_leaf}
use Rattle.alog_config.specs.declared.building.BuildError.TheVariants.{Store}
use Rattle.alog_config.specs.declared.config.Config.{Config}
use Rattle.alog_config.specs.declared.fault.ConfigFault.{ConfigFault}
use Rattle.alog_config.specs.declared.fault.ConfigFault.TheVariants as config
use Rattle.alog_ffi.specs.Stores.{Begins, failures_of}
use Rattle.alog_ffi.specs.declared.answer.Answer.{Answer}
use Rattle.alog_ffi.specs.declared.answer.Answer.TheVariants as answer
use Rattle.alog_ffi.specs.declared.opening.Asked.{Asked}
use Rattle.alog_ffi.specs.declared.opening.Refusal.{Refusal}
use Rattle.alog_ffi.specs.declared.opening.Refusal.TheVariants as refusal
use Rattle.alog_ffi.specs.declared.part.Part.{Part}
use Rattle.alog_ffi.specs.declared.part.Part.TheVariants.{Nothing, Pool, Found, Files}
use Rattle.alog_outbox.specs.Views.{DrainView, OutboxView, files_of}
use Rattle.alog_outbox.specs.declared.found.FoundFile.{FoundFile}
use Rattle.alog_owned.specs.Owned.{OpensBy, OwnedPoolView}
use Rattle.alog_pool.specs.declared.setup.Setup.{Setup}
use Rattle.alog_server.specs.Setting.{IsSetupOf}

-- So many new stores over a folder in which these files were found, each with its drain, of which nothing was taken.
abbrev pub AreNew : List FoundFile → List OutboxView → List DrainView → Type 0
AreNew found [] [] = Unit {0}
AreNew found (s ∷ ss) (d ∷ ds) = Begins found s d × AreNew found ss ds
AreNew found _ _ = ⊥

-- A pool was opened of this configuration, over such stores, one for each sink that is no fan.
pub record OpensOf (c : Config) (asked : Asked) (found : List FoundFile) (p : OwnedPoolView OutboxView) (drains : List DrainView) : Type 0 where
  pub stores : List OutboxView
  pub new : AreNew found stores drains
  pub count : length stores ≡ count_by is_leaf c.sinks.items
  pub setup : Setup OutboxView
  pub set : IsSetupOf true files_of failures_of c stores 0 setup
  pub opens : OpensBy setup asked.producers p

-- A pool was opened of the configuration that the document says.
pub record OpensFrom (asked : Asked) (found : List FoundFile) (p : OwnedPoolView OutboxView) (drains : List DrainView) : Type 0 where
  pub config : Config
  pub reads : Reads asked.document.now (Ok config)
  pub opens : OpensOf config asked found p drains

-- Why no pool was opened of a configuration, which is not want of memory: the store of a sink that rotates its file by size, which is new, failed.
pub record HasNoStore (c : Config) (found : List FoundFile) : Type 0 where
  pub stores : List OutboxView
  pub drains : List DrainView
  pub new : AreNew found stores drains
  pub sink : ℕ
  pub reason : Option Error
  pub fault : IsFaultOf failures_of (λ (s : OutboxView). None) c.sinks.items stores (Store sink reason)

-- Why no pool was opened of a document: it is no configuration, the size of a sink's file could not be told, or there is no memory.
abbrev pub IsUnopenedFor : Asked → List FoundFile → Answer → Type 0
IsUnopenedFor asked found answer.BadConfig = (fault : ConfigFault) × Reads asked.document.now (Err fault) × (fault ≢ config.OutOfMemory)
IsUnopenedFor asked found answer.NoStore = (c : Config) × Reads asked.document.now (Ok c) × HasNoStore c found
IsUnopenedFor asked found answer.NoMemory = Unit {0}
IsUnopenedFor asked found a = ⊥

-- the answer of a refusal
abbrev pub answer_of : Refusal → Answer
answer_of (refusal.BadConfig words) = answer.BadConfig
answer_of (refusal.NoStore words) = answer.NoStore
answer_of refusal.NoMemory = answer.NoMemory

-- Some words, as many of their bytes as there is room for, lie at the front of the memory, whose rest is as it was.
abbrev pub HasWords : List ℕ → List ℕ → ℕ → Type 0
HasWords to into count = (words : List ℕ) × IsUtf8 words × (count ≡ min (length words) (length to)) × (into ≡ take count words ++ drop count to)

-- Where the configuration is the reason, words say why; else no bytes are told, and the memory is as it was.
abbrev pub TellsWhy : List ℕ → List ℕ → ℕ → Answer → Type 0
TellsWhy to into count answer.BadConfig = HasWords to into count
TellsWhy to into count answer.NoStore = HasWords to into count
TellsWhy to into count a = (into ≡ to) × (count ≡ 0)

-- what was told of files, if nothing else is there
abbrev pub IsTold : Part → List FoundFile → Type 0
IsTold Nothing found = found ≡ []
IsTold (Found fs) found = fs ≡ found
IsTold other found = ⊥

-- Why no pool was opened: its handle was in use, that of files held something else, or this is said of the document.
abbrev pub IsUnopened : Part → Part → Asked → Answer → Type 0
IsUnopened pool files asked answer.InUse = pool ≢ Nothing
IsUnopened pool files asked answer.WrongHandle = (pool ≡ Nothing) × ((found : List FoundFile) → ¬ IsTold files found)
IsUnopened pool files asked a = (pool ≡ Nothing) × ((found : List FoundFile) × IsTold files found × IsUnopenedFor asked found a)

-- A pool was opened over the files that were told, and both handles are filled; or none was, which is the answer, and both hold what they held.
abbrev pub AnswersOpen : Part → Part → Asked → Answer → Part → Part → Type 0
AnswersOpen pool files asked answer.Done new left = (pool ≡ Nothing) × (found : List FoundFile) × IsTold files found
    × (p : OwnedPoolView OutboxView) × (new ≡ Pool p) × ((ds : Vec DrainView Global) × (left ≡ Files ds) × OpensFrom asked found p ds.items)
AnswersOpen pool files asked a new left = (new ≡ pool) × (left ≡ files) × IsUnopened pool files asked a
