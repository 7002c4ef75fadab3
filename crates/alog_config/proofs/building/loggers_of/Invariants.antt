use Rattle.std.proofs.Common.{take}
use Rattle.alog_config.specs.Built.{EachIs, IsLoggerOf}
use Rattle.alog_config.proofs.building.loggers_of.Given as goal

abbrev pub invariant-loop-logger : goal.invariant-loop-logger
invariant-loop-logger g l = EachIs (IsLoggerOf l.parts) (take l.logger-index l.loggers) l.registry.loggers
