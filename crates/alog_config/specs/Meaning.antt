-- What a document says, or which of its faults is first.
use Rattle.std.specs.Prelude.{◌≡◌, ℕ, pos, List, [], ◌∷◌, ◌++◌, take, slice_get, codes, Option, Some, None, Result, Ok}
use Rattle.std.specs.Prelude.{Err}
use Rattle.std.specs.Str.{IsUtf8}
use Rattle.alog_config.specs.declared.config.Config.{Config}
use Rattle.alog_config.specs.declared.config.LoggerConfig.{LoggerConfig}
use Rattle.alog_config.specs.declared.config.SinkConfig.{SinkConfig}
use Rattle.alog_config.specs.declared.config.SinkKind.{SinkKind}
use Rattle.alog_config.specs.declared.config.SinkKind.TheVariants as sinks
use Rattle.alog_config.specs.declared.config.Upkeep.{Upkeep}
use Rattle.alog_config.specs.declared.config.Upkeep.TheVariants as upkeeps
use Rattle.alog_config.specs.declared.fault.ConfigFault.{ConfigFault}
use Rattle.alog_config.specs.declared.fault.ConfigFault.TheVariants as faults
use Rattle.alog_config.specs.declared.fault.Place.{Place}
use Rattle.alog_config.specs.declared.fault.Place.TheVariants as places
use Rattle.alog_config.specs.declared.fault.Rule.{Rule}
use Rattle.alog_config.specs.declared.field.Field.{Field}
use Rattle.alog_config.specs.declared.field.Field.TheVariants.{Absent, Bad, Given}
use Rattle.alog_config.specs.declared.keys.Kind.{Kind}
use Rattle.alog_config.specs.declared.keys.Kind.TheVariants as kinds
use Rattle.alog_config.specs.declared.logger_fields.LoggerFields.{LoggerFields}
use Rattle.alog_config.specs.declared.reading.TableFault.{TableFault}
use Rattle.alog_config.specs.declared.reading.TableFault.TheVariants as table_faults
use Rattle.alog_config.specs.declared.sink_fields.SinkFields.{SinkFields}
use Rattle.alog_config.specs.declared.top.TopFields.{TopFields}
use Rattle.alog_config.specs.Fields.{AreLoggerFields, AreSinkFields, AreTopFields, file_of, given}
use Rattle.alog_config.specs.Rules.{IsFirst, LoggerBreaks, SinkBreaks, TopBreaks, order}
use Rattle.alog_config.specs.Values.{LentTables, given_or, tables_in}
use Rattle.alog_format.specs.declared.context.Zone.{Zone}
use Rattle.alog_format.specs.declared.context.Zone.TheVariants.{Fixed}
use Rattle.alog_msg.specs.declared.level.Level.TheVariants as levels
use Rattle.alog_msg.specs.declared.limits.TheConstants.{DEFAULT_TEXT_LIMIT}
use Rattle.alog_policy.specs.declared.policy.Policy.TheVariants as policies
use Rattle.toml.specs.Data.{Members}
use Rattle.toml.specs.Parse.{parse_document}

-- The kind of a sink whose file has this upkeep, and what its numbers are.
abbrev pub SaysUpkeep : SinkFields → Upkeep → Type 0
SaysUpkeep f upkeeps.Never = f.kind ≡ Given kinds.Memory
SaysUpkeep f (upkeeps.BySize max_size max_files) =
    (f.kind ≡ Given kinds.Rotating) × (f.max_size ≡ Given max_size) × (f.max_files ≡ Given max_files)
SaysUpkeep f (upkeeps.Daily hour minute max_files) =
    (f.kind ≡ Given kinds.Daily) × (hour ≡ given_or 0 f.hour) × (minute ≡ given_or 0 f.minute) × (max_files ≡ given_or 0 f.max_files)

abbrev pub SaysKind : SinkFields → SinkKind → Type 0
SaysKind f (sinks.Lines file pattern upkeep) =
    (file_of f ≡ Some file) × (pattern ≡ given_or (codes "%+") f.pattern) × SaysUpkeep f upkeep
SaysKind f (sinks.Fan of) = (f.kind ≡ Given kinds.Fan) × (f.of ≡ Given of)

-- The sink that fields say.
pub record SaysSink (f : SinkFields) (s : SinkConfig) : Type 0 where
  pub name : f.name ≡ Given s.name
  pub level : s.level ≡ given_or levels.Trace f.level
  pub kind : SaysKind f s.kind

-- The logger that fields say.
pub record SaysLogger (f : LoggerFields) (l : LoggerConfig) : Type 0 where
  pub name : f.name ≡ Given l.name
  pub level : l.level ≡ given_or levels.Info f.level
  pub policy : l.policy ≡ given_or policies.Block f.policy
  pub sinks : f.sinks ≡ Given l.sinks
  pub flush_on : l.flush_on ≡ given_or levels.Off f.flush_on
  pub backtrace : l.backtrace ≡ given_or 0 f.backtrace

-- A table says this sink behind the earlier ones: it keeps each rule. Or this rule is the first that it breaks.
pub record IsSink (limit : ℕ) (earlier : List SinkConfig) (t : Members) (s : SinkConfig) : Type 0 where
  pub fields : SinkFields
  pub are : AreSinkFields limit t fields
  pub kept : IsFirst order (SinkBreaks earlier fields) None
  pub says : SaysSink fields s

pub record IsRefusedSink (limit : ℕ) (earlier : List SinkConfig) (t : Members) (rule : Rule) : Type 0 where
  pub fields : SinkFields
  pub are : AreSinkFields limit t fields
  pub broken : IsFirst order (SinkBreaks earlier fields) (Some rule)

pub record IsLogger (sinks : List SinkConfig) (earlier : List LoggerConfig) (t : Members) (l : LoggerConfig) : Type 0 where
  pub fields : LoggerFields
  pub are : AreLoggerFields t fields
  pub kept : IsFirst order (LoggerBreaks sinks earlier fields) None
  pub says : SaysLogger fields l

pub record IsRefusedLogger (sinks : List SinkConfig) (earlier : List LoggerConfig) (t : Members) (rule : Rule) : Type 0 where
  pub fields : LoggerFields
  pub are : AreLoggerFields t fields
  pub broken : IsFirst order (LoggerBreaks sinks earlier fields) (Some rule)

-- The tables say these sinks, each behind those before it; so do tables of loggers.
abbrev pub AreSinks : ℕ → List SinkConfig → List Members → List SinkConfig → Type 0
AreSinks limit earlier [] [] = Unit {0}
AreSinks limit earlier (t ∷ ts) (s ∷ ss) = IsSink limit earlier t s × AreSinks limit (earlier ++ s ∷ []) ts ss
AreSinks limit earlier _ _ = ⊥

abbrev pub AreLoggers : List SinkConfig → List LoggerConfig → List Members → List LoggerConfig → Type 0
AreLoggers sinks earlier [] [] = Unit {0}
AreLoggers sinks earlier (t ∷ ts) (l ∷ ls) = IsLogger sinks earlier t l × AreLoggers sinks (earlier ++ l ∷ []) ts ls
AreLoggers sinks earlier _ _ = ⊥

-- The table of this number is the first that is refused, for this rule.
pub record RefusesSink (limit : ℕ) (ts : List Members) (i : ℕ) (rule : Rule) : Type 0 where
  pub earlier : List SinkConfig
  pub before : AreSinks limit [] (take i ts) earlier
  pub t : Members
  pub at : slice_get ts i ≡ Some t
  pub refused : IsRefusedSink limit earlier t rule

pub record RefusesLogger (sinks : List SinkConfig) (ts : List Members) (i : ℕ) (rule : Rule) : Type 0 where
  pub earlier : List LoggerConfig
  pub before : AreLoggers sinks [] (take i ts) earlier
  pub t : Members
  pub at : slice_get ts i ≡ Some t
  pub refused : IsRefusedLogger sinks earlier t rule

-- these tables are given
abbrev pub Has : Field LentTables → List Members → Type 0
Has (Given v) tables = tables_in v ≡ tables
Has Absent tables = ⊥
Has Bad tables = ⊥

-- The top keeps each rule, and has these tables of sinks and of loggers.
pub record IsTop (t : Members) (f : TopFields) (sink_tables : List Members) (logger_tables : List Members) : Type 0 where
  pub are : AreTopFields t f
  pub kept : IsFirst order (TopBreaks f) None
  pub sinks : Has f.sinks sink_tables
  pub loggers : Has f.loggers logger_tables

-- the limit of texts that the top gives
abbrev pub limit_of : TopFields → ℕ
limit_of f = given_or DEFAULT_TEXT_LIMIT f.text

-- the clock of lines: by the rule that the top gives, or else so many minutes east of UTC
abbrev pub zone_of : TopFields → Zone
zone_of f = given_or (Fixed (given_or (pos 0) f.offset)) f.zone

-- A document says this configuration.
pub record Says (t : Members) (c : Config) : Type 0 where
  pub fields : TopFields
  pub sink_tables : List Members
  pub logger_tables : List Members
  pub top : IsTop t fields sink_tables logger_tables
  pub queue : c.queue ≡ given_or 8192 fields.queue
  pub workers : c.workers ≡ given_or 1 fields.workers
  pub text : c.text ≡ limit_of fields
  pub zone : c.zone ≡ zone_of fields
  pub process : c.process ≡ given_or 0 fields.process
  pub retry : c.retry ≡ given fields.retry
  pub sinks : AreSinks c.text [] sink_tables c.sinks.items
  pub loggers : AreLoggers c.sinks.items [] logger_tables c.loggers.items

-- The first fault of a document: this rule in this place.
pub record RefusesTop (t : Members) (rule : Rule) : Type 0 where
  pub fields : TopFields
  pub are : AreTopFields t fields
  pub broken : IsFirst order (TopBreaks fields) (Some rule)

pub record RefusesASink (t : Members) (i : ℕ) (rule : Rule) : Type 0 where
  pub fields : TopFields
  pub sink_tables : List Members
  pub logger_tables : List Members
  pub top : IsTop t fields sink_tables logger_tables
  pub refused : RefusesSink (limit_of fields) sink_tables i rule

pub record RefusesALogger (t : Members) (i : ℕ) (rule : Rule) : Type 0 where
  pub fields : TopFields
  pub sink_tables : List Members
  pub logger_tables : List Members
  pub top : IsTop t fields sink_tables logger_tables
  pub sinks : List SinkConfig
  pub are : AreSinks (limit_of fields) [] sink_tables sinks
  pub refused : RefusesLogger sinks logger_tables i rule

abbrev pub Refuses : Members → Place → Rule → Type 0
Refuses t places.Top rule = RefusesTop t rule
Refuses t (places.Sink i) rule = RefusesASink t i rule
Refuses t (places.Logger i) rule = RefusesALogger t i rule

-- What is read of a table in a document: the configuration that it says, or its first fault. Memory may be wanting at any point.
abbrev pub IsAnswer : Members → Result Config ConfigFault → Type 0
IsAnswer t (Ok c) = Says t c
IsAnswer t (Err faults.NotToml) = ⊥
IsAnswer t (Err (faults.Broken rule place)) = Refuses t place rule
IsAnswer t (Err faults.OutOfMemory) = Unit {0}

-- What is read of a document: what its table says, if it is one in UTF-8; else it is no TOML.
abbrev pub Reads : List ℕ → Result Config ConfigFault → Type 0
Reads document (Err faults.NotToml) = IsUtf8 document → parse_document document ≡ None
Reads document (Err faults.OutOfMemory) = Unit {0}
Reads document answer = IsUtf8 document × ((t : Members) × (parse_document document ≡ Some t) × IsAnswer t answer)

-- What is read of one table: a value, or the first rule that it breaks.
abbrev pub IsTableAnswer : {A : Type 0} → (A → Type 0) → (Rule → Type 0) → Result A TableFault → Type 0
IsTableAnswer says refused (Ok a) = says a
IsTableAnswer says refused (Err (table_faults.Broken rule)) = refused rule
IsTableAnswer says refused (Err table_faults.OutOfMemory) = Unit {0}

abbrev pub fault_at : Place → TableFault → ConfigFault
fault_at place (table_faults.Broken rule) = faults.Broken rule place
fault_at place table_faults.OutOfMemory = faults.OutOfMemory

-- the first fault of some tables
abbrev pub IsSinksFault : ℕ → List Members → ConfigFault → Type 0
IsSinksFault limit ts faults.NotToml = ⊥
IsSinksFault limit ts faults.OutOfMemory = Unit {0}
IsSinksFault limit ts (faults.Broken rule (places.Sink i)) = RefusesSink limit ts i rule
IsSinksFault limit ts (faults.Broken rule _) = ⊥

abbrev pub IsLoggersFault : List SinkConfig → List Members → ConfigFault → Type 0
IsLoggersFault sinks ts faults.NotToml = ⊥
IsLoggersFault sinks ts faults.OutOfMemory = Unit {0}
IsLoggersFault sinks ts (faults.Broken rule (places.Logger i)) = RefusesLogger sinks ts i rule
IsLoggersFault sinks ts (faults.Broken rule _) = ⊥

-- the upkeep of a kind, if it has one and its numbers are given
abbrev pub MakesUpkeep : Kind → Field ℕ → Field ℕ → Field ℕ → Field ℕ → Option Upkeep → Type 0
MakesUpkeep kinds.Memory size files hour minute made = made ≡ Some upkeeps.Never
MakesUpkeep kinds.Rotating (Given size) (Given files) hour minute made = made ≡ Some (upkeeps.BySize size files)
MakesUpkeep kinds.Rotating size files hour minute made = made ≡ None
MakesUpkeep kinds.Daily size files hour minute made =
    made ≡ Some (upkeeps.Daily (given_or 0 hour) (given_or 0 minute) (given_or 0 files))
MakesUpkeep kinds.Fan size files hour minute made = made ≡ None
