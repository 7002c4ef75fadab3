-- That a configuration is sound has one proof at most.
use Rattle.std.specs.Prelude.{ℕ, List, [], ◌∷◌, ◌++◌}
use Rattle.std.proofs.Props.{props}
use Rattle.alog_config.specs.declared.config.LoggerConfig.{LoggerConfig}
use Rattle.alog_config.specs.declared.config.SinkConfig.{SinkConfig}
use Rattle.alog_config.specs.declared.config.SinkKind.{SinkKind}
use Rattle.alog_config.specs.declared.config.SinkKind.TheVariants as sinks
use Rattle.alog_config.specs.declared.config.Upkeep.{Upkeep}
use Rattle.alog_config.specs.declared.config.Upkeep.TheVariants as upkeeps
use Rattle.alog_config.specs.Sound.{AreSoundLoggers, AreSoundSinks, IsSound, IsSoundKind, IsSoundLogger, IsSoundSink, IsSoundTop, IsSoundUpkeep}
use Rattle.alog_format.specs.declared.context.Zone.{Zone}

upkeep_prop : (u : Upkeep) → IsProp (IsSoundUpkeep u)
upkeep_prop upkeeps.Never = hlevel props
upkeep_prop (upkeeps.BySize max_size max_files) = hlevel props
upkeep_prop (upkeeps.Daily hour minute max_files) = hlevel props

kind_prop : (limit : ℕ) (earlier : List SinkConfig) (k : SinkKind) → IsProp (IsSoundKind limit earlier k)
kind_prop limit earlier (sinks.Lines file pattern upkeep) = hlevel (upkeep_prop, props)
kind_prop limit earlier (sinks.Fan of) = hlevel props

sink_prop : (limit : ℕ) (earlier : List SinkConfig) (s : SinkConfig) → IsProp (IsSoundSink limit earlier s)
sink_prop limit earlier s = hlevel (kind_prop, props)

logger_prop : (ss : List SinkConfig) (earlier : List LoggerConfig) (l : LoggerConfig) → IsProp (IsSoundLogger ss earlier l)
logger_prop ss earlier l = hlevel props

sinks_prop : (limit : ℕ) (earlier ss : List SinkConfig) → IsProp (AreSoundSinks limit earlier ss)
sinks_prop limit earlier [] = hlevel props
sinks_prop limit earlier (s ∷ ss) = let rest = sinks_prop limit (earlier ++ s ∷ []) ss in hlevel (sink_prop, rest, props)

loggers_prop : (ss : List SinkConfig) (earlier ls : List LoggerConfig) → IsProp (AreSoundLoggers ss earlier ls)
loggers_prop ss earlier [] = hlevel props
loggers_prop ss earlier (l ∷ ls) = let rest = loggers_prop ss (earlier ++ l ∷ []) ls in hlevel (logger_prop, rest, props)

pub IsSound-prop : (limit : ℕ) (zone : Zone) (ss : List SinkConfig) (ls : List LoggerConfig) → IsProp (IsSound limit zone ss ls)
IsSound-prop limit zone ss ls = hlevel (sinks_prop, loggers_prop, props)

pub IsSoundTop-prop : (queue workers : ℕ) → IsProp (IsSoundTop queue workers)
IsSoundTop-prop queue workers = hlevel props
