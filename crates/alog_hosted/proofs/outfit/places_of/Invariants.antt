use Rattle.std.proofs.Common.{◌≡◌, ◌≤◌, length, vec_capacity}
use Rattle.alog_pool.specs.Places.{Each2, IsFirst}
use Rattle.alog_pool.specs.Pool.{lanes_of}
use Rattle.alog_hosted.proofs.outfit.places_of.Given as goal

abbrev pub invariant-loop-sink : goal.invariant-loop-sink
invariant-loop-sink g l =
    Each2 (IsFirst l.text_limit) l.yielded l.places.items × (lanes_of l.places.items ≡ l.lanes.items)
    × (length l.fn.sinks.items ≤ vec_capacity l.places) × (length l.fn.sinks.items ≤ vec_capacity l.lanes)
