use Rattle.std.proofs.Common.{◌≡◌, ◌≤◌, ◌++◌, length, vec_capacity}
use Rattle.std.specs.Vec.Iter.{into_iter_items}
use Rattle.alog_hosted.proofs.Closings.{Ending}
use Rattle.alog_hosted.proofs.disband.end_places.Given as goal
use Rattle.alog_pattern.specs.declared.patterns.TheConstants.{LINE_MAX}
use Rattle.alog_pool.specs.Pool.{lanes_of}

abbrev pub invariant-loop-place : goal.invariant-loop-place
invariant-loop-place g l = record {
  ending : Ending g.S.Store.tells g.S.Store.files g.S.Store.failures l.yielded l.fn.faults.items l.sinks.items l.faults.items;
  number_is : l.number ≡ length l.yielded;
  lanes_are : l.fn.lanes.items ≡ lanes_of l.yielded ++ into_iter_items l.lanes;
  line_is : l.line.capacity ≡ LINE_MAX;
  room : length l.fn.places.items ≤ vec_capacity l.sinks;
}
