use Rattle.std.proofs.Common.{◌≡◌, vec_capacity}
use Rattle.alog_sink.specs.Opened.{leaves_of}
use Rattle.alog_sink.proofs.open.into_leaves.Given as goal

abbrev pub invariant-loop-sink : goal.invariant-loop-sink
invariant-loop-sink g l = (l.leaves.items ≡ leaves_of l.yielded) × (vec_capacity l.leaves ≡ vec_capacity l.fn.room)
