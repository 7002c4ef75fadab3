use Rattle.std.proofs.Common.{[], map, take}
use Rattle.alog_config.specs.Meaning.{AreLoggers}
use Rattle.toml.specs.View.{table_view}
use Rattle.alog_config.proofs.reading.read_loggers.Given as goal

abbrev pub invariant-loop-i : goal.invariant-loop-i
invariant-loop-i l = AreLoggers l.sinks [] (take l.i (map (λ b. table_view b.now) l.tables)) l.loggers.items
