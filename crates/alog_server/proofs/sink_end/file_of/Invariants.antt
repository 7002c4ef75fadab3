use Rattle.std.proofs.Common.{ℕ, ◌<◌, get_or, ◌≡◌}
use Rattle.alog_config.specs.Sinks.{IsFan}
use Rattle.alog_config.specs.declared.config.SinkConfig.{SinkConfig}
use Rattle.alog_server.proofs.sink_end.file_of.Given as goal

abbrev pub invariant-loop-sink : goal.invariant-loop-sink
invariant-loop-sink l =
    (k : ℕ) (d : SinkConfig) → k < l.sink-index → ((get_or l.sinks k d).name ≡ l.name) × (¬ IsFan (get_or l.sinks k d)) → ⊥
