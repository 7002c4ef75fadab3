use Rattle.std.proofs.Common.{◌≡◌, map}
use Rattle.alog_config.specs.declared.parts.Part.{Part}
use Rattle.alog_config.proofs.parts.sinks_of.Given as goal

abbrev pub invariant-loop-sink : goal.invariant-loop-sink
invariant-loop-sink g l = l.sinks.items ≡ map (λ (p : Part g.row.S.Denot). p.sink) l.yielded
