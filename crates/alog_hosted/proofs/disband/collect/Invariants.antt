use Rattle.std.proofs.Common.{◌≡◌, ◌≤◌, List, ◌++◌, map, length, vec_capacity}
use Rattle.std.specs.Vec.Iter.{into_iter_items, into_iter_len}
use Rattle.alog_hosted.specs.Closing.{Collects}
use Rattle.alog_hosted.specs.Workers.{WorkerView}
use Rattle.alog_pool.specs.SinkSeat.{SinkSeatView}
use Rattle.alog_hosted.proofs.disband.collect.Given as goal
use Rattle.alog_ring.specs.Known.{IsPassOf}

abbrev pub decreases-loop-worker : goal.decreases-loop-worker
decreases-loop-worker g l = into_iter_len l.rest

abbrev pub invariant-loop-worker : goal.invariant-loop-worker
invariant-loop-worker g l = record {
  done : List (WorkerView g.row.S.Denot);
  front : l.fn.workers.items ≡ done ++ into_iter_items l.rest;
  ring : IsPassOf l.shared.ring.ring l.pass;
  collects : Collects l.shared done l.fn.pass.known l.pass.known l.fn.places.items l.places.items l.tickets.items l.halves.items l.all;
  limits : map (λ (b : SinkSeatView g.row.S.Denot). b.limit) l.places.items ≡ map (λ (b : SinkSeatView g.row.S.Denot). b.limit) l.fn.places.items;
  few : length l.halves.items ≤ length done;
  tickets_room : length l.fn.workers.items ≤ vec_capacity l.tickets;
  halves_room : length l.fn.workers.items ≤ vec_capacity l.halves;
}
