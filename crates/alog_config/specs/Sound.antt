-- What is true of each configuration: it keeps the rules.
use Rattle.std.specs.Prelude.{◌≡◌, ◌≤◌, ◌^◌, ℕ, true, List, [], ◌∷◌, ◌++◌, length}
use Rattle.std.specs.List.{Any}
use Rattle.alog_config.specs.declared.TheConstants.{TABLES_MAX}
use Rattle.alog_config.specs.declared.config.LoggerConfig.{LoggerConfig}
use Rattle.alog_config.specs.declared.config.SinkConfig.{SinkConfig}
use Rattle.alog_config.specs.declared.config.SinkKind.{SinkKind}
use Rattle.alog_config.specs.declared.config.SinkKind.TheVariants as sinks
use Rattle.alog_config.specs.declared.config.Upkeep.{Upkeep}
use Rattle.alog_config.specs.declared.config.Upkeep.TheVariants as upkeeps
use Rattle.alog_config.specs.Sinks.{AnyFan, AnyMember, AnyUnknown, IsFile, IsSinkName}
use Rattle.alog_config.specs.Values.{AreNames, IsPattern}
use Rattle.alog_core.specs.World.{is_size}
use Rattle.alog_format.specs.Civil.{IsZone}
use Rattle.alog_format.specs.declared.context.Zone.{Zone}
use Rattle.alog_msg.specs.declared.limits.TheConstants.{LOGGER_NAME_MAX}
use Rattle.alog_pattern.specs.Compiled.{IsTextLimit}
use Rattle.alog_registry.specs.declared.TheConstants.{KEPT_MAX}
use Rattle.alog_sink.specs.Names.{IsFileName}

-- the numbers of a sink's kind are within their bounds
abbrev pub IsSoundUpkeep : Upkeep → Type 0
IsSoundUpkeep upkeeps.Never = Unit {0}
IsSoundUpkeep (upkeeps.BySize max_size max_files) = (1 ≤ max_size) × (max_size ≤ 2 ^ 40) × (max_files ≤ 1000)
IsSoundUpkeep (upkeeps.Daily hour minute max_files) = (hour ≤ 23) × (minute ≤ 59) × (max_files ≤ 1000)

-- A file can have the name, and no earlier sink has the file; the pattern can be compiled for texts of that limit. A fan's
-- members are earlier sinks, no fans, and in no earlier fan.
abbrev pub IsSoundKind : ℕ → List SinkConfig → SinkKind → Type 0
IsSoundKind limit earlier (sinks.Lines file pattern upkeep) =
    IsFileName file × (¬ IsFile earlier file) × IsPattern limit pattern × IsSoundUpkeep upkeep
IsSoundKind limit earlier (sinks.Fan of) = AreNames of × (¬ AnyUnknown earlier of) × (¬ AnyFan earlier of) × (¬ AnyMember earlier of)

-- A sink that keeps the rules behind the earlier ones.
pub record IsSoundSink (limit : ℕ) (earlier : List SinkConfig) (s : SinkConfig) : Type 0 where
  pub some : 1 ≤ length s.name
  pub short : length s.name ≤ LOGGER_NAME_MAX
  pub free : ¬ IsSinkName earlier s.name
  pub kind : IsSoundKind limit earlier s.kind

-- A logger that keeps the rules behind the earlier ones, with these sinks.
pub record IsSoundLogger (sinks : List SinkConfig) (earlier : List LoggerConfig) (l : LoggerConfig) : Type 0 where
  pub some : 1 ≤ length l.name
  pub short : length l.name ≤ LOGGER_NAME_MAX
  pub free : ¬ Any (λ (x : LoggerConfig). x.name ≡ l.name) earlier
  pub names : AreNames l.sinks
  pub known : ¬ AnyUnknown sinks l.sinks
  pub apart : ¬ AnyMember sinks l.sinks
  pub few : l.backtrace ≤ KEPT_MAX

abbrev pub AreSoundSinks : ℕ → List SinkConfig → List SinkConfig → Type 0
AreSoundSinks limit earlier [] = Unit {0}
AreSoundSinks limit earlier (s ∷ ss) = IsSoundSink limit earlier s × AreSoundSinks limit (earlier ++ s ∷ []) ss

abbrev pub AreSoundLoggers : List SinkConfig → List LoggerConfig → List LoggerConfig → Type 0
AreSoundLoggers sinks earlier [] = Unit {0}
AreSoundLoggers sinks earlier (l ∷ ls) = IsSoundLogger sinks earlier l × AreSoundLoggers sinks (earlier ++ l ∷ []) ls

-- The queue has a size that a queue may have, and there are 1 to 64 workers.
pub record IsSoundTop (queue workers : ℕ) : Type 0 where
  pub size : is_size queue ≡ true
  pub some : 1 ≤ workers
  pub few : workers ≤ 64

-- A configuration of this text limit, clock, sinks and loggers keeps the rules.
pub record IsSound (limit : ℕ) (zone : Zone) (sinks : List SinkConfig) (loggers : List LoggerConfig) : Type 0 where
  pub limited : IsTextLimit limit
  pub near : IsZone zone
  pub few_sinks : length sinks ≤ TABLES_MAX
  pub few_loggers : length loggers ≤ TABLES_MAX
  pub each_sink : AreSoundSinks limit [] sinks
  pub each_logger : AreSoundLoggers sinks [] loggers
