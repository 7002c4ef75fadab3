use Rattle.std.proofs.Common.{◌≡◌, ◌≤◌, List, map, length, ap, sym, subst, ◌∙◌, arith}
use Rattle.std.proofs.lemmas.List.{length-map}
use Rattle.std.specs.Arc.{arc_value}
use Rattle.std.specs.List.{AllByRecursion}
use Rattle.std.specs.declared.thread.PromisedHandle.{PromisedHandle}
use Rattle.alog_pool.specs.Back.{loss_member}
use Rattle.alog_pool.specs.SinkSeat.{SinkSeatView}
use Rattle.alog_pool.specs.Pool.{Begins, PoolView, lanes_of}
use Rattle.alog_pool.specs.Report.{Ends}
use Rattle.alog_pool.specs.Stops.{AreEnough}
use Rattle.alog_pool.specs.Working.{HasWorked}
use Rattle.alog_pool.specs.declared.worker.Worker.{Worker}
use Rattle.alog_pool.specs.declared.report.Report.{Report}
use Rattle.alog_pool.specs.declared.shared.Shared.{Shared}
use Rattle.alog_pool.specs.declared.works.Works.{Works}
use Rattle.alog_pool.proofs.SharedClosed.{all_back, all_closed}
use Rattle.alog_pool.proofs.SharedRows.{rows_lanes}
use Rattle.alog_pool.proofs.SharedServed.{all_served, rows_counted, rows_even, same_numbers}
use Rattle.alog_pool.proofs.SharedSharing.{each2_length}
use Rattle.alog_pool.proofs.SharedTotalled.{all_came_back, all_parts, members, moment, only_stops, out, took_none, totals}
use Rattle.alog_pool.proofs.pool.Pool.end.Goals as goal
use Rattle.alog_core.specs.Accounts.{claims}
use Rattle.alog_ring.specs.Known.{IsPassOf}
use Rattle.alog_ring.specs.Share.{IsWhole}
use Rattle.alog_ring.specs.declared.TheConstants.{ALL_PARTS}

pub collect-handled-requires-clause-began : goal.collect-handled-requires-clause-began
collect-handled-requires-clause-began g c κs within =
    let S = g.row.S.Denot in
    let inside = c.self.inside in
    let starts : List (Worker S) = map (λ (h : PromisedHandle (Worker S) (Works S)). h.promise.start.value) inside.workers.items in (
      inside.tickets_max,
      subst (λ (s : Shared). AllByRecursion (Begins s (lanes_of inside.sink_seats.items) inside.tickets_max) starts)
          (sym c.deref-3.ensures) c.self.invariant.0.began,
    )

pub close_book-lost-requires-clause-all : goal.close_book-lost-requires-clause-all
close_book-lost-requires-clause-all g c =
    let S = g.row.S.Denot in
    let inside = c.self.inside in
    let pool = c.self.invariant.0 in
    let left = pool.left in
    let starts : List (Worker S) = map (λ (h : PromisedHandle (Worker S) (Works S)). h.promise.start.value) inside.workers.items in
    let producers = c.args.producers.items in
    let collected = c.collect-handled.ensures.collects in
    let enough : inside.made ≤ length producers = subst (λ (v : PoolView S). v.made ≤ length producers) (sym c.self.view_is) c.requires.enough in
    let same = all_came_back inside.pass.known c.gather.new.pass.known c.post_stops.new.pass.known c.collect-handled.new.pass.known producers
    starts collected.crew c.len.result left.pass_unused.0 left.pass_unused.1 c.gather.ensures.passes c.gather.ensures.accounts
    c.post_stops.ensures.stops collected.passes collected.worked pool.some inside.made left.pass_parts enough c.is_whole-whole.ensures.most in
    let back = c.gather.ensures.seats.parts in
    let many = length-map producers loss_member in
    let seats = left.losses_parts in
    omega (arith, same, back, many, seats)

pub close_sink_seats-requires-clause-all : goal.close_sink_seats-requires-clause-all
close_sink_seats-requires-clause-all g c =
    let S = g.row.S.Denot in
    let inside = c.self.inside in
    let pool = c.self.invariant.0 in
    let starts : List (Worker S) = map (λ (h : PromisedHandle (Worker S) (Works S)). h.promise.start.value) inside.workers.items in
    let collected = c.collect-handled.ensures.collects in
    let crew = collected.crew in
    let rows : List (List (SinkSeatView S)) = map (λ (h : Worker S). h.sink_seats.items) crew in
    let many : length rows ≡ length starts =
    length-map crew (λ (h : Worker S). h.sink_seats.items) ∙ each2_length HasWorked starts crew collected.worked in
    all_back (length starts) inside.sink_seats.items c.collect-handled.new.sink_seats.items rows collected.places many
    (rows_even (arc_value inside.shared) inside.sink_seats.items inside.tickets_max starts crew pool.began collected.worked)
    pool.left.sink_seat_parts

pub close_sink_seats-requires-clause-faults : goal.close_sink_seats-requires-clause-faults
close_sink_seats-requires-clause-faults g c =
    let S = g.row.S.Denot in
    let room = c.self.invariant.1.faults in
    let old = c.self.inside.sink_seats.items in
    let new = c.collect-handled.new.sink_seats.items in
    let same = sym (length-map new (λ (b : SinkSeatView S). b.lane))
    ∙ ap (λ l. length l) (rows_lanes old new _ c.collect-handled.ensures.collects.places) ∙ length-map old (λ (b : SinkSeatView S). b.lane) in
    let enough = room.1 in
    (room.0, omega (arith, same, enough))

pub close_sink_seats-requires-clause-sinks : goal.close_sink_seats-requires-clause-sinks
close_sink_seats-requires-clause-sinks g c =
    let S = g.row.S.Denot in
    let room = c.self.invariant.1.sinks_are in
    let old = c.self.inside.sink_seats.items in
    let new = c.collect-handled.new.sink_seats.items in
    let same = sym (length-map new (λ (b : SinkSeatView S). b.lane))
    ∙ ap (λ l. length l) (rows_lanes old new _ c.collect-handled.ensures.collects.places) ∙ length-map old (λ (b : SinkSeatView S). b.lane) in
    let enough = room.1 in
    (room.0, omega (arith, same, enough))

pub returns-clause-ends : goal.returns-clause-ends
returns-clause-ends g c =
    let S = g.row.S.Denot in
    let inside = c.self.inside in
    let pool = c.self.invariant.0 in
    let left = pool.left in
    let shared : Shared = arc_value inside.shared in
    let starts : List (Worker S) = map (λ (h : PromisedHandle (Worker S) (Works S)). h.promise.start.value) inside.workers.items in
    let producers = c.args.producers.items in
    let collected = c.collect-handled.ensures.collects in
    let crew = collected.crew in
    let a = inside.pass.known in
    let j = c.gather.new.pass.known in
    let k = c.post_stops.new.pass.known in
    let l = c.collect-handled.new.pass.known in
    let count = c.len.result in
    let gather = c.gather.ensures.passes in
    let accounts = c.gather.ensures.accounts in
    let stops = c.post_stops.ensures.stops in
    let own = left.pass_unused.0 in
    let none = left.pass_unused.1 in
    let many = each2_length HasWorked starts crew collected.worked in
    let made : inside.made ≤ length producers = subst (λ (v : PoolView S). v.made ≤ length producers) (sym c.self.view_is) c.requires.enough in
    let left_parts = left.pass_parts in
    let parts : l.parts ≡ ALL_PARTS =
    (let all = all_parts a j k l producers starts crew count own none gather accounts stops collected.passes collected.worked pool.some in
    let most = c.is_whole-whole.ensures.most in
    omega (arith, all, many, made, left_parts, most)) in
    let yes = c.is_whole-whole.ensures.parts.1 parts in
    let whole : IsWhole l = subst IsWhole (c.is_whole-whole.ensures.same yes) (c.is_whole-whole.ensures.whole yes) in
    let ring = subst (λ (s : Shared). IsPassOf s.ring.ring c.collect-handled.new.pass) c.deref-3.ensures c.collect-handled.ensures.ring in
    let places : 1 ≤ l.places = subst (λ n. 1 ≤ n) (sym ring.places) left.some_places in
    let every : count ≡ length starts =
    (let long = length-map inside.workers.items (λ (h : PromisedHandle (Worker S) (Works S)). h.promise.start.value) in
    omega (arith, long, c.len.ensures, inside.workers.ok.0)) in
    let halted = only_stops a j k l producers starts crew count own none gather accounts stops collected.passes collected.worked pool.some in
    let report : Report S = record {
      totals = c.of.result;
      tickets = c.collect-handled.new.tickets;
      faults = c.close_sink_seats.new.faults;
      sinks = c.close_sink_seats.new.sinks;
    } in
    subst (λ (v : PoolView S). Ends g.S.Store.tells g.S.Store.files g.S.Store.failures v producers report) c.self.view_is
    (record {
      crew = crew;
      count = many;
      numbers = same_numbers starts crew collected.worked;
      served = all_served shared (lanes_of inside.sink_seats.items) inside.tickets_max starts crew pool.began collected.worked;
      end = l;
      whole = whole;
      moment = moment a j k l producers starts crew count own none gather accounts stops collected.passes collected.worked pool.some whole
          places;
      counts = left.counts;
      ring = (ring.places, ring.first);
      members = members a j k l producers starts crew count own none gather accounts stops collected.passes collected.worked pool.some;
      stops = (halted.0, subst (λ n. AreEnough n (claims l.own) l.own) every halted.1);
      took_none = took_none a j k l producers starts crew count own none gather accounts stops collected.passes collected.worked pool.some;
      out = out a j k l producers starts crew count own none gather accounts stops collected.passes collected.worked pool.some whole places;
      totals = totals a j k l producers starts crew count own none gather accounts stops collected.passes collected.worked pool.some
          whole places inside.losses.known c.gather.new.losses.known c.close_book-lost.result c.collect-handled.result c.of.result
          left.losses_unused.0 left.losses_unused.1 c.gather.ensures.seats c.close_book-lost.ensures collected.handled_is c.of.ensures;
      tickets = collected.tickets_are;
      sinks = all_closed g.S.Store.tells g.S.Store.files g.S.Store.failures inside.sink_seats.items c.collect-handled.new.sink_seats.items
          (map (λ (h : Worker S). h.sink_seats.items) crew) c.close_sink_seats.new.sinks.items c.close_sink_seats.new.faults.items (record {
            back = collected.places;
            unused = left.sink_seats_unused;
            counted = rows_counted shared (lanes_of inside.sink_seats.items) inside.tickets_max starts crew pool.began collected.worked;
          })
          c.close_sink_seats.ensures;
    })

pub returns-clause-all : goal.returns-clause-all
returns-clause-all g c =
    let S = g.row.S.Denot in
    let inside = c.self.inside in
    let pool = c.self.invariant.0 in
    let left = pool.left in
    let starts : List (Worker S) = map (λ (h : PromisedHandle (Worker S) (Works S)). h.promise.start.value) inside.workers.items in
    let producers = c.args.producers.items in
    let collected = c.collect-handled.ensures.collects in
    let enough : inside.made ≤ length producers = subst (λ (v : PoolView S). v.made ≤ length producers) (sym c.self.view_is) c.requires.enough in
    let same = all_came_back inside.pass.known c.gather.new.pass.known c.post_stops.new.pass.known c.collect-handled.new.pass.known producers
    starts collected.crew c.len.result left.pass_unused.0 left.pass_unused.1 c.gather.ensures.passes c.gather.ensures.accounts
    c.post_stops.ensures.stops collected.passes collected.worked pool.some inside.made left.pass_parts enough c.is_whole-whole.ensures.most in
    same ∙ ap (λ (v : PoolView S). v.made) c.self.view_is
