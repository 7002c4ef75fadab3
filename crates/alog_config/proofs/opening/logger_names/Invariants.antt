use Rattle.std.proofs.Common.{◌≡◌, map, take}
use Rattle.alog_config.specs.declared.config.LoggerConfig.{LoggerConfig}
use Rattle.alog_config.proofs.opening.logger_names.Given as goal

abbrev pub invariant-loop-logger : goal.invariant-loop-logger
invariant-loop-logger l = l.names ≡ map (λ (x : LoggerConfig). x.name) (take l.logger-index l.logger-items)
