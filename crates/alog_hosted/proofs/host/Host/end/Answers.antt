use Rattle.std.proofs.Common.{◌++◌, ℕ, List, map, sym, ap, subst, ◌∙◌, arith}
use Rattle.std.specs.List.{AllByRecursion}
use Rattle.alog_hosted.proofs.AllEnded.{all_ended, gave_many, rows_counted}
use Rattle.alog_hosted.proofs.Balanced.{made_none, members, out, put_no_stops, totals}
use Rattle.alog_hosted.proofs.Standing.{all_keep, come_then, has_come, have_been, stands_made}
use Rattle.alog_hosted.proofs.host.Host.end.Goals as goal
use Rattle.alog_hosted.specs.Closing.{AreAtLimit, items_of}
use Rattle.alog_hosted.specs.Ends.{AreEnded, Disbands, all_owed}
use Rattle.alog_hosted.specs.Host.{HostView}
use Rattle.alog_hosted.specs.Lent.{HostedView}
use Rattle.alog_hosted.specs.Workers.{WorkerView}
use Rattle.alog_lane.specs.Calls.{LaneId}
use Rattle.alog_msg.specs.declared.item.Item.{Item}
use Rattle.alog_pool.proofs.SharedDeeds.{have_then}
use Rattle.alog_pool.specs.Deeds.{Due, HaveMade, all_dues}
use Rattle.alog_pool.specs.SinkSeat.{SinkSeatView}
use Rattle.alog_pool.specs.declared.report.Report.{Report}
use Rattle.alog_sink.specs.declared.sink.Sink.{Sink}

pub collect-taken-requires-clause-tickets : goal.collect-taken-requires-clause-tickets
collect-taken-requires-clause-tickets g c =
    let few = c.self.invariant.0.few.0 in
    let many = c.requires.all.1 ∙ ap (λ (v : HostView g.row.S.Denot). v.hired) (sym c.self.view_is) in
    let room = c.self.invariant.1.tickets in
    let enough_room = room.1 in
    (room.0, omega (arith, few, enough_room, many))

pub collect-taken-requires-clause-halves : goal.collect-taken-requires-clause-halves
collect-taken-requires-clause-halves g c =
    let few = c.self.invariant.0.few.0 in
    let many = c.requires.all.1 ∙ ap (λ (v : HostView g.row.S.Denot). v.hired) (sym c.self.view_is) in
    let room = c.self.invariant.1.halves in
    let enough_room = room.1 in
    (room.0, omega (arith, few, enough_room, many))

pub take_faults-requires : goal.take_faults-requires
take_faults-requires g c =
    let ps = c.args.producers.items in
    let ws = c.args.workers.items in
    let collects = c.collect-taken.ensures.collects in
    let l = c.collect-taken.new.pass.known in
    let bs = c.collect-taken.new.places.items in
    let come = has_come c.self.invariant.0 c.self.view_is c.hosted.view_is c.requires.hosted c.gather.new.pass.known l ps ws
    c.gather.ensures.passes collects.passes c.requires.workers c.requires.all bs collects.places_are
    c.collect-taken.ensures.limits in
    let room = c.self.invariant.1.faults in
    let count = come.back.count in
    let enough_room = room.1 in
    record { room = (room.0, omega (arith, count, enough_room)) }

pub finish_all-requires-clause-lanes : goal.finish_all-requires-clause-lanes
finish_all-requires-clause-lanes g c =
    let ps = c.args.producers.items in
    let ws = c.args.workers.items in
    let collects = c.collect-taken.ensures.collects in
    let l = c.collect-taken.new.pass.known in
    let bs = c.collect-taken.new.places.items in
    let come = has_come c.self.invariant.0 c.self.view_is c.hosted.view_is c.requires.hosted c.gather.new.pass.known l ps ws
    c.gather.ensures.passes collects.passes c.requires.workers c.requires.all bs collects.places_are
    c.collect-taken.ensures.limits in
    let cs = c.take_faults.new.places.items in
    let fs = c.take_faults.new.faults.items in
    let stands = come_then bs cs fs come c.take_faults.ensures in
    stands.lanes ∙ sym c.deref-2.ensures.value

pub finish_all-requires-clause-alone : goal.finish_all-requires-clause-alone
finish_all-requires-clause-alone g c =
    let ps = c.args.producers.items in
    let ws = c.args.workers.items in
    let collects = c.collect-taken.ensures.collects in
    let l = c.collect-taken.new.pass.known in
    let bs = c.collect-taken.new.places.items in
    let come = has_come c.self.invariant.0 c.self.view_is c.hosted.view_is c.requires.hosted c.gather.new.pass.known l ps ws
    c.gather.ensures.passes collects.passes c.requires.workers c.requires.all bs collects.places_are
    c.collect-taken.ensures.limits in
    let cs = c.take_faults.new.places.items in
    let fs = c.take_faults.new.faults.items in
    let stands = come_then bs cs fs come c.take_faults.ensures in
    stands.alone

pub finish_all-requires-clause-limits : goal.finish_all-requires-clause-limits
finish_all-requires-clause-limits g c =
    let ps = c.args.producers.items in
    let ws = c.args.workers.items in
    let collects = c.collect-taken.ensures.collects in
    let l = c.collect-taken.new.pass.known in
    let bs = c.collect-taken.new.places.items in
    let come = has_come c.self.invariant.0 c.self.view_is c.hosted.view_is c.requires.hosted c.gather.new.pass.known l ps ws
    c.gather.ensures.passes collects.passes c.requires.workers c.requires.all bs collects.places_are
    c.collect-taken.ensures.limits in
    let cs = c.take_faults.new.places.items in
    let fs = c.take_faults.new.faults.items in
    let stands = come_then bs cs fs come c.take_faults.ensures in (
      c.self.inside.text_limit,
      stands.limits,
      subst (λ n. AllByRecursion (AreAtLimit n) c.collect-taken.new.halves.items) come.host.left.queued collects.limits,
    )

pub hand_out-handled-requires-clause-lanes : goal.hand_out-handled-requires-clause-lanes
hand_out-handled-requires-clause-lanes g c =
    let ps = c.args.producers.items in
    let ws = c.args.workers.items in
    let collects = c.collect-taken.ensures.collects in
    let l = c.collect-taken.new.pass.known in
    let bs = c.collect-taken.new.places.items in
    let come = has_come c.self.invariant.0 c.self.view_is c.hosted.view_is c.requires.hosted c.gather.new.pass.known l ps ws
    c.gather.ensures.passes collects.passes c.requires.workers c.requires.all bs collects.places_are
    c.collect-taken.ensures.limits in
    let cs = c.take_faults.new.places.items in
    let fs = c.take_faults.new.faults.items in
    let stands = come_then bs cs fs come c.take_faults.ensures in
    let ds = c.finish_all.new.places.items in
    let after = stands_made cs ds stands c.finish_all.ensures.places in
    after.lanes ∙ sym c.deref-3.ensures.value

pub hand_out-handled-requires-clause-alone : goal.hand_out-handled-requires-clause-alone
hand_out-handled-requires-clause-alone g c =
    let ps = c.args.producers.items in
    let ws = c.args.workers.items in
    let collects = c.collect-taken.ensures.collects in
    let l = c.collect-taken.new.pass.known in
    let bs = c.collect-taken.new.places.items in
    let come = has_come c.self.invariant.0 c.self.view_is c.hosted.view_is c.requires.hosted c.gather.new.pass.known l ps ws
    c.gather.ensures.passes collects.passes c.requires.workers c.requires.all bs collects.places_are
    c.collect-taken.ensures.limits in
    let cs = c.take_faults.new.places.items in
    let fs = c.take_faults.new.faults.items in
    let stands = come_then bs cs fs come c.take_faults.ensures in
    let ds = c.finish_all.new.places.items in
    let after = stands_made cs ds stands c.finish_all.ensures.places in
    after.alone

pub hand_out-handled-requires-clause-limits : goal.hand_out-handled-requires-clause-limits
hand_out-handled-requires-clause-limits g c =
    let ps = c.args.producers.items in
    let ws = c.args.workers.items in
    let collects = c.collect-taken.ensures.collects in
    let l = c.collect-taken.new.pass.known in
    let bs = c.collect-taken.new.places.items in
    let come = has_come c.self.invariant.0 c.self.view_is c.hosted.view_is c.requires.hosted c.gather.new.pass.known l ps ws
    c.gather.ensures.passes collects.passes c.requires.workers c.requires.all bs collects.places_are
    c.collect-taken.ensures.limits in
    let cs = c.take_faults.new.places.items in
    let fs = c.take_faults.new.faults.items in
    let stands = come_then bs cs fs come c.take_faults.ensures in
    let ds = c.finish_all.new.places.items in
    let after = stands_made cs ds stands c.finish_all.ensures.places in (
      c.self.inside.text_limit,
      after.limits,
      all_keep c.hosted.inside.shared.ring.ring.limit c.self.inside.text_limit c.left_of-left.result.items come.host.left.queued c.left_of-left.ensures.limit,
    )

pub end_places-requires-clause-lanes : goal.end_places-requires-clause-lanes
end_places-requires-clause-lanes g c =
    let ps = c.args.producers.items in
    let ws = c.args.workers.items in
    let collects = c.collect-taken.ensures.collects in
    let l = c.collect-taken.new.pass.known in
    let bs = c.collect-taken.new.places.items in
    let come = has_come c.self.invariant.0 c.self.view_is c.hosted.view_is c.requires.hosted c.gather.new.pass.known l ps ws
    c.gather.ensures.passes collects.passes c.requires.workers c.requires.all bs collects.places_are
    c.collect-taken.ensures.limits in
    let cs = c.take_faults.new.places.items in
    let fs = c.take_faults.new.faults.items in
    let stands = come_then bs cs fs come c.take_faults.ensures in
    let ds = c.finish_all.new.places.items in
    let after = stands_made cs ds stands c.finish_all.ensures.places in
    let es = c.hand_out-handled.new.places.items in
    let ends = stands_made ds es after c.hand_out-handled.ensures.places in
    ends.lanes

pub end_places-requires-clause-alone : goal.end_places-requires-clause-alone
end_places-requires-clause-alone g c =
    let ps = c.args.producers.items in
    let ws = c.args.workers.items in
    let collects = c.collect-taken.ensures.collects in
    let l = c.collect-taken.new.pass.known in
    let bs = c.collect-taken.new.places.items in
    let come = has_come c.self.invariant.0 c.self.view_is c.hosted.view_is c.requires.hosted c.gather.new.pass.known l ps ws
    c.gather.ensures.passes collects.passes c.requires.workers c.requires.all bs collects.places_are
    c.collect-taken.ensures.limits in
    let cs = c.take_faults.new.places.items in
    let fs = c.take_faults.new.faults.items in
    let stands = come_then bs cs fs come c.take_faults.ensures in
    let ds = c.finish_all.new.places.items in
    let after = stands_made cs ds stands c.finish_all.ensures.places in
    let es = c.hand_out-handled.new.places.items in
    let ends = stands_made ds es after c.hand_out-handled.ensures.places in
    ends.alone

pub end_places-requires-clause-faults : goal.end_places-requires-clause-faults
end_places-requires-clause-faults g c =
    let ps = c.args.producers.items in
    let ws = c.args.workers.items in
    let collects = c.collect-taken.ensures.collects in
    let l = c.collect-taken.new.pass.known in
    let bs = c.collect-taken.new.places.items in
    let come = has_come c.self.invariant.0 c.self.view_is c.hosted.view_is c.requires.hosted c.gather.new.pass.known l ps ws
    c.gather.ensures.passes collects.passes c.requires.workers c.requires.all bs collects.places_are
    c.collect-taken.ensures.limits in
    let cs = c.take_faults.new.places.items in
    let fs = c.take_faults.new.faults.items in
    let stands = come_then bs cs fs come c.take_faults.ensures in
    let ds = c.finish_all.new.places.items in
    let after = stands_made cs ds stands c.finish_all.ensures.places in
    let es = c.hand_out-handled.new.places.items in
    let ends = stands_made ds es after c.hand_out-handled.ensures.places in
    let many = (gave_many bs cs fs c.take_faults.ensures).1 in
    many ∙ come.back.count ∙ sym ends.count

pub end_places-requires-clause-sinks : goal.end_places-requires-clause-sinks
end_places-requires-clause-sinks g c =
    let ps = c.args.producers.items in
    let ws = c.args.workers.items in
    let collects = c.collect-taken.ensures.collects in
    let l = c.collect-taken.new.pass.known in
    let bs = c.collect-taken.new.places.items in
    let come = has_come c.self.invariant.0 c.self.view_is c.hosted.view_is c.requires.hosted c.gather.new.pass.known l ps ws
    c.gather.ensures.passes collects.passes c.requires.workers c.requires.all bs collects.places_are
    c.collect-taken.ensures.limits in
    let cs = c.take_faults.new.places.items in
    let fs = c.take_faults.new.faults.items in
    let stands = come_then bs cs fs come c.take_faults.ensures in
    let ds = c.finish_all.new.places.items in
    let after = stands_made cs ds stands c.finish_all.ensures.places in
    let es = c.hand_out-handled.new.places.items in
    let ends = stands_made ds es after c.hand_out-handled.ensures.places in
    let room = c.self.invariant.1.sinks_are in
    let count = ends.count in
    let enough_room = room.1 in
    (room.0, omega (arith, count, enough_room))

pub returns : goal.returns
returns g c =
    let ps = c.args.producers.items in
    let ws = c.args.workers.items in
    let collects = c.collect-taken.ensures.collects in
    let l = c.collect-taken.new.pass.known in
    let bs = c.collect-taken.new.places.items in
    let come = has_come c.self.invariant.0 c.self.view_is c.hosted.view_is c.requires.hosted c.gather.new.pass.known l ps ws
    c.gather.ensures.passes collects.passes c.requires.workers c.requires.all bs collects.places_are
    c.collect-taken.ensures.limits in
    let cs = c.take_faults.new.places.items in
    let fs = c.take_faults.new.faults.items in
    let stands = come_then bs cs fs come c.take_faults.ensures in
    let ds = c.finish_all.new.places.items in
    let after = stands_made cs ds stands c.finish_all.ensures.places in
    let S = g.row.S.Denot in
    let inside = c.self.inside in
    let es = c.hand_out-handled.new.places.items in
    let host = come.host in
    let left : List (ℕ × Item) = items_of c.left_of-left.result.items in
    let loggers = c.hosted.inside.shared.loggers in
    let a = inside.pass.known in
    let j = c.gather.new.pass.known in
    let gather = c.gather.ensures.passes in
    let accounts = c.gather.ensures.accounts in
    let unused = host.left.pass_unused in
    let leaves = c.left_of-left.ensures.left in
    let halves = c.collect-taken.new.halves.items in
    let owed = subst (λ (ds : List Due). HaveMade 0 cs c.finish_all.new.places.items ds) collects.owed c.finish_all.ensures.turns in
    let dues : List Due = all_owed ws ++ all_dues loggers left in
    let made = have_then 0 cs ds es (all_owed ws) (all_dues loggers left) owed c.hand_out-handled.ensures.turns in
    let rows : List (List (SinkSeatView S)) = map (λ (w : WorkerView S). w.places) ws in
    let closed = all_ended g.S.Store.tells g.S.Store.files g.S.Store.failures 0 inside.places.items bs cs es rows fs dues
    c.end_places.new.sinks.items c.end_places.new.faults.items (record {
      unused = host.left.sink_seats_unused;
      back = collects.places_are;
      counted = rows_counted ws collects.worked;
      gave = c.take_faults.ensures;
      made = made;
      same = c.hand_out-handled.ensures.places ∙ c.finish_all.ensures.places;
    })
    c.end_places.ensures in
    let report : Report S = record {
      totals = c.of.result;
      tickets = c.collect-taken.new.tickets;
      faults = c.end_places.new.faults;
      sinks = c.end_places.new.sinks;
    } in
    let same = c.hosted.view_is ∙ c.requires.hosted ∙ sym (ap (λ (v : HostView S). v.hosted) c.self.view_is) in
    let seen : HostedView S → HostView S = λ h. record {
      hosted = h;
      pass = inside.pass;
      losses = inside.losses;
      places = inside.places.items;
      backtraces = inside.backtraces.items;
      made = inside.made;
      hired = inside.hired;
      workers = inside.workers;
      limit = inside.text_limit;
      most = inside.tickets_max;
    } in
    subst (λ (v : HostView S). Disbands g.S.Store.tells g.S.Store.files g.S.Store.failures v ps ws report) (ap seen same ∙ c.self.view_is)
    (record {
      all = come.all;
      end = l;
      whole = leaves.whole;
      ring = (c.collect-taken.ensures.ring.places, c.collect-taken.ensures.ring.first);
      members = members a j l ps ws unused.0 unused.1 gather accounts collects.passes collects.worked;
      own = made_none a j l ps ws unused.0 unused.1 gather accounts collects.passes collects.worked;
      worked = have_been _ ws come.theirs collects.worked;
      left = left;
      left_are = leaves.cells;
      no_stops = put_no_stops ps accounts;
      out = out a j l ps ws unused.0 unused.1 gather accounts collects.passes collects.worked leaves.whole left leaves.cells;
      totals = totals a j l ps ws unused.0 unused.1 gather accounts collects.passes collects.worked leaves.whole left leaves.cells
          inside.losses.known c.gather.new.losses.known c.lost_in-lost.result c.collect-taken.result c.hand_out-handled.result c.of.result
          host.left.losses_unused.0 host.left.losses_unused.1 c.gather.ensures.seats c.lost_in-lost.ensures collects.handled_is
          c.hand_out-handled.ensures.handled c.of.ensures;
      tickets = collects.tickets_are;
      sinks = subst (λ (ls : List (LaneId (Sink S))). AreEnded g.S.Store.tells g.S.Store.files g.S.Store.failures 0 ls rows dues
          c.end_places.new.sinks.items c.end_places.new.faults.items) host.lanes closed;
    })
