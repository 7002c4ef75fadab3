use Rattle.std.proofs.Common.{◌≤◌, List, map, refl, sym, subst, ap, ◌∙◌}
use Rattle.std.specs.List.{range_with_len}
use Rattle.alog_pool.proofs.SharedHiring.{some_size}
use Rattle.alog_lane.specs.Calls.{LaneId}
use Rattle.alog_pool.specs.BacktraceSeat.{BacktraceSeatView}
use Rattle.alog_pool.specs.declared.shared.Shared.{Shared}
use Rattle.alog_pool.proofs.pool.Pool.start.Goals as goal
use Rattle.alog_sink.specs.declared.sink.Sink.{Sink}

pub returns-in-Ok-clause-started : goal.returns-in-Ok-clause-started
returns-in-Ok-clause-started g c =
    let parts = c.in-Ok.ensures.1 in
    let staffed = c.in-Ok.ensures.2 in
    let shape = c.in_ok-ring.ensures.shape in
    let ring = ap (λ (s : Shared). s.ring.ring) staffed.shared ∙ parts.ring_is in
    record {
      queue = (ap (λ r. r.places) ring ∙ shape.0, ap (λ r. r.first) ring ∙ shape.1);
      loggers = ap (λ (s : Shared). s.loggers) staffed.shared ∙ parts.loggers;
      gaps = ap (λ (s : Shared). s.gaps) staffed.shared ∙ parts.gaps;
      sinks = ap (λ (l : List (LaneId (Sink g.row.S.Denot))). map (λ (i : LaneId (Sink g.row.S.Denot)). i.first) l) staffed.lanes ∙ parts.sinks;
      rooms = ap (λ (ks : List BacktraceSeatView). map (λ (k : BacktraceSeatView). k.lane.first) ks) staffed.backtrace_seats ∙ parts.rooms;
      made = staffed.made;
      limit = staffed.limit ∙ parts.limit;
      most = staffed.most ∙ parts.most;
      crew = staffed.crew ∙ parts.workers;
      numbers = staffed.numbers ∙ ap (λ n. range_with_len 0 n) parts.workers;
    }

pub start_workers-requires-clause-places : goal.start_workers-requires-clause-places
start_workers-requires-clause-places g c κs within =
    let made = c.in_ok-ring.ensures in
    subst (λ n. 1 ≤ n) (sym made.shape.0) (some_size c.args.setup.queue _ refl (λ small. cc (made.bad_size.1 small)))
