-- What a table has at each of its keys.
use Rattle.std.specs.Prelude.{◌↔◌, ◌^◌, ℕ, List, codes, Option, Some, None, IsTrue}
use Rattle.alog_config.specs.declared.field.Field.{Field}
use Rattle.alog_config.specs.declared.field.Field.TheVariants.{Absent, Bad, Given}
use Rattle.alog_config.specs.declared.keys.Kind.{Kind}
use Rattle.alog_config.specs.declared.keys.Kind.TheVariants.{Memory}
use Rattle.alog_config.specs.declared.keys.Owner.TheVariants.{Top, Sink, Logger}
use Rattle.alog_config.specs.declared.logger_fields.LoggerFields.{LoggerFields}
use Rattle.alog_config.specs.declared.sink_fields.SinkFields.{SinkFields}
use Rattle.alog_config.specs.declared.top.TopFields.{TopFields}
use Rattle.alog_config.specs.Keys.{HasOtherKey}
use Rattle.alog_config.specs.Values.{IsField, IsKind, IsMinutes, IsName, IsNameList, IsNumber, IsPatternText, IsPolicy}
use Rattle.alog_config.specs.Values.{IsQueue, IsTableArray, IsText, Spelled}
use Rattle.alog_format.specs.Civil.{IsRuleOf}
use Rattle.alog_msg.specs.Level.{Names}
use Rattle.alog_msg.specs.declared.limits.TheConstants.{TEXT_LIMIT_MIN, TEXT_LIMIT_MAX}
use Rattle.alog_registry.specs.declared.TheConstants.{KEPT_MAX}
use Rattle.toml.specs.Data.{Members, get_member}

-- what is given, if something is
abbrev pub given : {A : Type 0} → Field A → Option A
given (Given a) = Some a
given Absent = None
given Bad = None

-- The keys of the top, and what each may hold.
pub record AreTopFields (t : Members) (f : TopFields) : Type 0 where
  pub others : IsTrue f.other_key ↔ HasOtherKey Top t
  pub queue : IsField IsQueue (get_member (codes "queue") t) f.queue
  pub workers : IsField (IsNumber 1 64) (get_member (codes "workers") t) f.workers
  pub text : IsField (IsNumber TEXT_LIMIT_MIN TEXT_LIMIT_MAX) (get_member (codes "text") t) f.text
  pub offset : IsField IsMinutes (get_member (codes "offset") t) f.offset
  pub zone : IsField (Spelled IsRuleOf) (get_member (codes "zone") t) f.zone
  pub process : IsField (IsNumber 0 4294967295) (get_member (codes "process") t) f.process
  pub retry : IsField (IsNumber 0 1000000) (get_member (codes "retry") t) f.retry
  pub sinks : IsField IsTableArray (get_member (codes "sink") t) f.sinks
  pub loggers : IsField IsTableArray (get_member (codes "logger") t) f.loggers

-- The keys of a sink, and what each may hold. Its pattern is for texts of that limit.
pub record AreSinkFields (limit : ℕ) (t : Members) (f : SinkFields) : Type 0 where
  pub others : IsTrue f.other_key ↔ HasOtherKey (Sink (given f.kind)) t
  pub name : IsField (Spelled IsName) (get_member (codes "name") t) f.name
  pub kind : IsField (Spelled IsKind) (get_member (codes "kind") t) f.kind
  pub level : IsField (Spelled Names) (get_member (codes "level") t) f.level
  pub pattern : IsField (Spelled (IsPatternText limit)) (get_member (codes "pattern") t) f.pattern
  pub file : IsField (Spelled IsText) (get_member (codes "file") t) f.file
  pub max_size : IsField (IsNumber 1 (2 ^ 40)) (get_member (codes "max_size") t) f.max_size
  pub max_files : IsField (IsNumber 0 1000) (get_member (codes "max_files") t) f.max_files
  pub hour : IsField (IsNumber 0 23) (get_member (codes "hour") t) f.hour
  pub minute : IsField (IsNumber 0 59) (get_member (codes "minute") t) f.minute
  pub of : IsField IsNameList (get_member (codes "of") t) f.of

-- The keys of a logger, and what each may hold.
pub record AreLoggerFields (t : Members) (f : LoggerFields) : Type 0 where
  pub others : IsTrue f.other_key ↔ HasOtherKey Logger t
  pub name : IsField (Spelled IsName) (get_member (codes "name") t) f.name
  pub level : IsField (Spelled Names) (get_member (codes "level") t) f.level
  pub policy : IsField (Spelled IsPolicy) (get_member (codes "policy") t) f.policy
  pub sinks : IsField IsNameList (get_member (codes "sinks") t) f.sinks
  pub flush_on : IsField (Spelled Names) (get_member (codes "flush_on") t) f.flush_on
  pub backtrace : IsField (IsNumber 0 KEPT_MAX) (get_member (codes "backtrace") t) f.backtrace

-- The file that a sink's lines would go to: the one that is given, and for a memory sink without one its name.
abbrev pub default_file : Field Kind → Field (List ℕ) → Option (List ℕ)
default_file (Given Memory) name = given name
default_file _ name = None

abbrev pub file_or : Option (List ℕ) → Field (List ℕ) → Option (List ℕ)
file_or default (Given file) = Some file
file_or default Absent = default
file_or default Bad = None

abbrev pub file_of : SinkFields → Option (List ℕ)
file_of f = file_or (default_file f.kind f.name) f.file
