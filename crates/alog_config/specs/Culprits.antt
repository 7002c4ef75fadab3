-- Which key of a table breaks a rule.
use Rattle.std.specs.Prelude.{◌≡◌, ◌⊎◌, Bool, ℕ, List, [], ◌∷◌, codes, Option, Some, None, IsTrue}
use Rattle.alog_config.specs.declared.config.SinkConfig.{SinkConfig}
use Rattle.alog_config.specs.declared.fault.Rule.{Rule}
use Rattle.alog_config.specs.declared.fault.Rule.TheVariants.{UnknownKey, BadValue, Missing, NameTaken, NoSuchSink}
use Rattle.alog_config.specs.declared.field.Field.{Field}
use Rattle.alog_config.specs.declared.field.Field.TheVariants.{Absent, Bad, Given}
use Rattle.alog_config.specs.declared.keys.Kind.TheVariants as kinds
use Rattle.alog_config.specs.declared.keys.Kind as the_kind
use Rattle.alog_config.specs.declared.logger_fields.LoggerFields.{LoggerFields}
use Rattle.alog_config.specs.declared.sink_fields.SinkFields.{SinkFields}
use Rattle.alog_config.specs.declared.top.TopFields.{TopFields}
use Rattle.alog_config.specs.declared.words.Key.{Key}
use Rattle.alog_config.specs.declared.words.Key.TheVariants.{Queue, Workers, Text, Offset, Zone, Process, Retry, Sink, Logger, Name, Kind, Level}
use Rattle.alog_config.specs.declared.words.Key.TheVariants.{Pattern, File, MaxSize, MaxFiles, Hour, Minute, Of, Policy, Sinks}
use Rattle.alog_config.specs.declared.words.Key.TheVariants.{FlushOn, Backtrace}
use Rattle.alog_config.specs.Keys.{IsOneOf, keys_of}
use Rattle.alog_config.specs.Rules.{HasBadFile, HasBadMember, HasBadZoneKey, HasLentSink, IsFirst, LacksTables}
use Rattle.alog_config.specs.declared.keys.Owner.{Owner}
use Rattle.toml.specs.Data.{Members, no_members, member}

-- a key as a document has it
abbrev pub name_of : Key → List ℕ
name_of Queue = codes "queue"
name_of Workers = codes "workers"
name_of Text = codes "text"
name_of Offset = codes "offset"
name_of Zone = codes "zone"
name_of Process = codes "process"
name_of Retry = codes "retry"
name_of Sink = codes "sink"
name_of Logger = codes "logger"
name_of Name = codes "name"
name_of Kind = codes "kind"
name_of Level = codes "level"
name_of Pattern = codes "pattern"
name_of File = codes "file"
name_of MaxSize = codes "max_size"
name_of MaxFiles = codes "max_files"
name_of Hour = codes "hour"
name_of Minute = codes "minute"
name_of Of = codes "of"
name_of Policy = codes "policy"
name_of Sinks = codes "sinks"
name_of FlushOn = codes "flush_on"
name_of Backtrace = codes "backtrace"

-- the first of some keys that is told
abbrev pub IsFirstTold : List (Key × Bool) → Option Key → Type 0
IsFirstTold [] found = found ≡ None
IsFirstTold (k ∷ ks) found = (IsTrue k.1 × (found ≡ Some k.0)) ⊎ ((¬ IsTrue k.1) × IsFirstTold ks found)

-- the first key of a table that is not one of its owner's, if it has one
abbrev pub IsOtherKey : Owner → Members → Option (List ℕ) → Type 0
IsOtherKey owner no_members found = found ≡ None
IsOtherKey owner (member key d rest) found =
    ((¬ IsOneOf (keys_of owner) key) × (found ≡ Some key)) ⊎ (IsOneOf (keys_of owner) key × IsOtherKey owner rest found)

-- The top: its keys, in the order in which they are looked at, and which has a bad value, or no table.
abbrev pub top_order : List Key
top_order = Queue ∷ Workers ∷ Text ∷ Offset ∷ Zone ∷ Process ∷ Retry ∷ Sink ∷ Logger ∷ []

abbrev pub IsBadTopKey : TopFields → Key → Type 0
IsBadTopKey f Queue = f.queue ≡ Bad
IsBadTopKey f Workers = f.workers ≡ Bad
IsBadTopKey f Text = f.text ≡ Bad
IsBadTopKey f Offset = f.offset ≡ Bad
IsBadTopKey f Zone = HasBadZoneKey f
IsBadTopKey f Process = f.process ≡ Bad
IsBadTopKey f Retry = f.retry ≡ Bad
IsBadTopKey f Sink = f.sinks ≡ Bad
IsBadTopKey f Logger = f.loggers ≡ Bad
IsBadTopKey f _ = ⊥

abbrev pub LacksArray : TopFields → Key → Type 0
LacksArray f Sink = LacksTables f.sinks
LacksArray f Logger = LacksTables f.loggers
LacksArray f _ = ⊥

-- the first key by which the top breaks a rule
abbrev pub IsTopCulprit : TopFields → Rule → Option Key → Type 0
IsTopCulprit f UnknownKey found = found ≡ None
IsTopCulprit f BadValue found = IsFirst top_order (IsBadTopKey f) found
IsTopCulprit f Missing found = IsFirst (Sink ∷ Logger ∷ []) (LacksArray f) found
IsTopCulprit f NameTaken found = found ≡ None
IsTopCulprit f NoSuchSink found = found ≡ None

-- A sink: the same. Its file and its members may also be none that it can have.
abbrev pub HasBadFileKey : List SinkConfig → SinkFields → Type 0
HasBadFileKey earlier f = (f.file ≡ Bad) ⊎ HasBadFile earlier f

abbrev pub HasBadOfKey : List SinkConfig → SinkFields → Type 0
HasBadOfKey earlier f = (f.of ≡ Bad) ⊎ HasBadMember earlier f

abbrev pub sink_order : List Key
sink_order = Name ∷ Kind ∷ Level ∷ Pattern ∷ File ∷ MaxSize ∷ MaxFiles ∷ Hour ∷ Minute ∷ Of ∷ []

abbrev pub IsBadSinkKey : List SinkConfig → SinkFields → Key → Type 0
IsBadSinkKey earlier f Name = f.name ≡ Bad
IsBadSinkKey earlier f Kind = f.kind ≡ Bad
IsBadSinkKey earlier f Level = f.level ≡ Bad
IsBadSinkKey earlier f Pattern = f.pattern ≡ Bad
IsBadSinkKey earlier f File = HasBadFileKey earlier f
IsBadSinkKey earlier f MaxSize = f.max_size ≡ Bad
IsBadSinkKey earlier f MaxFiles = f.max_files ≡ Bad
IsBadSinkKey earlier f Hour = f.hour ≡ Bad
IsBadSinkKey earlier f Minute = f.minute ≡ Bad
IsBadSinkKey earlier f Of = HasBadOfKey earlier f
IsBadSinkKey earlier f _ = ⊥

-- the keys that a sink of this kind must be given
abbrev pub needed_keys : Field the_kind.Kind → List Key
needed_keys (Given kinds.Memory) = Name ∷ Kind ∷ []
needed_keys (Given kinds.Rotating) = Name ∷ Kind ∷ File ∷ MaxSize ∷ MaxFiles ∷ []
needed_keys (Given kinds.Daily) = Name ∷ Kind ∷ File ∷ []
needed_keys (Given kinds.Fan) = Name ∷ Kind ∷ Of ∷ []
needed_keys Absent = Name ∷ Kind ∷ []
needed_keys Bad = Name ∷ Kind ∷ []

abbrev pub LacksKey : SinkFields → Key → Type 0
LacksKey f Name = f.name ≡ Absent
LacksKey f Kind = f.kind ≡ Absent
LacksKey f File = f.file ≡ Absent
LacksKey f MaxSize = f.max_size ≡ Absent
LacksKey f MaxFiles = f.max_files ≡ Absent
LacksKey f Of = f.of ≡ Absent
LacksKey f _ = ⊥

abbrev pub IsSinkCulprit : List SinkConfig → SinkFields → Rule → Option Key → Type 0
IsSinkCulprit earlier f UnknownKey found = found ≡ None
IsSinkCulprit earlier f BadValue found = IsFirst sink_order (IsBadSinkKey earlier f) found
IsSinkCulprit earlier f Missing found = IsFirst (needed_keys f.kind) (LacksKey f) found
IsSinkCulprit earlier f NameTaken found = found ≡ Some Name
IsSinkCulprit earlier f NoSuchSink found = found ≡ Some Of

-- A logger: the same. Its sinks may also be none that it can have.
abbrev pub HasBadSinksKey : List SinkConfig → LoggerFields → Type 0
HasBadSinksKey sinks f = (f.sinks ≡ Bad) ⊎ HasLentSink sinks f

abbrev pub logger_order : List Key
logger_order = Name ∷ Level ∷ Policy ∷ Sinks ∷ FlushOn ∷ Backtrace ∷ []

abbrev pub IsBadLoggerKey : List SinkConfig → LoggerFields → Key → Type 0
IsBadLoggerKey sinks f Name = f.name ≡ Bad
IsBadLoggerKey sinks f Level = f.level ≡ Bad
IsBadLoggerKey sinks f Policy = f.policy ≡ Bad
IsBadLoggerKey sinks f Sinks = HasBadSinksKey sinks f
IsBadLoggerKey sinks f FlushOn = f.flush_on ≡ Bad
IsBadLoggerKey sinks f Backtrace = f.backtrace ≡ Bad
IsBadLoggerKey sinks f _ = ⊥

abbrev pub LacksLoggerKey : LoggerFields → Key → Type 0
LacksLoggerKey f Name = f.name ≡ Absent
LacksLoggerKey f Sinks = f.sinks ≡ Absent
LacksLoggerKey f _ = ⊥

abbrev pub IsLoggerCulprit : List SinkConfig → LoggerFields → Rule → Option Key → Type 0
IsLoggerCulprit sinks f UnknownKey found = found ≡ None
IsLoggerCulprit sinks f BadValue found = IsFirst logger_order (IsBadLoggerKey sinks f) found
IsLoggerCulprit sinks f Missing found = IsFirst (Name ∷ Sinks ∷ []) (LacksLoggerKey f) found
IsLoggerCulprit sinks f NameTaken found = found ≡ Some Name
IsLoggerCulprit sinks f NoSuchSink found = found ≡ Some Sinks
