use Rattle.std.proofs.Common.{◌≤◌, length, map, vec_capacity}
use Rattle.alog_pool.specs.Collected.{Collects}
use Rattle.alog_pool.proofs.shutdown.collect.Given as goal
use Rattle.alog_ring.specs.Known.{IsPassOf}

abbrev pub invariant-loop-worker : goal.invariant-loop-worker
invariant-loop-worker g l = record {
  ring : IsPassOf l.shared.ring.ring l.pass;
  collects : Collects (map (λ h. h.promise.start.value) l.yielded) l.fn.pass.known l.pass.known l.fn.sink_seats.items l.sink_seats.items
      l.tickets.items l.all;
  room : length l.fn.workers.items ≤ vec_capacity l.tickets;
}
