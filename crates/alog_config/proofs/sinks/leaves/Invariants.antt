use Rattle.std.proofs.Common.{◌≡◌, ◌≤◌, take}
use Rattle.std.specs.List.{count_by}
use Rattle.alog_config.specs.Sinks.{is_leaf}
use Rattle.alog_config.proofs.sinks.leaves.Given as goal

abbrev pub invariant-loop-sink : goal.invariant-loop-sink
invariant-loop-sink l = (l.count ≡ count_by is_leaf (take l.sink-index l.config.sinks.items)) × (l.count ≤ l.sink-index)
