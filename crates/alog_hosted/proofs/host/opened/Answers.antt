use Rattle.std.proofs.Common.{List, map, ap, refl, sym, subst, ◌∙◌, inl, arith}
use Rattle.alog_hosted.proofs.Lanes.{rooms_at}
use Rattle.alog_hosted.specs.Host.{IsHost}
use Rattle.alog_hosted.specs.Lent.{HostedView}
use Rattle.alog_lane.specs.Calls.{LaneId}
use Rattle.alog_pool.proofs.SharedFirstParts.{first_lanes, first_limits, first_parts, first_unused, backtrace_seats_idle, backtrace_seats_kept, backtrace_seats_parts, backtrace_seats_rooms}
use Rattle.alog_pool.proofs.SharedSharing.{each2_length}
use Rattle.alog_pool.specs.Places.{IsBacktraceSeatOf}
use Rattle.alog_hosted.proofs.host.opened.Goals as goal
use Rattle.alog_registry.specs.Backtrace.{Room}
use Rattle.alog_ring.specs.Made.{IsFaithful}
use Rattle.alog_sink.specs.declared.sink.Sink.{Sink}

pub invariant_of-host : goal.invariant_of-host
invariant_of-host g c =
    let S = g.row.S.Denot in
    let setup = c.args.setup in
    let limit = setup.text_limit in
    let known = c.requires.pass in
    let seat = c.in_ok-outfit.ensures.seat_known in
    let sinks = setup.sinks.items in
    let places = c.in_ok-outfit.outfit.places.items in
    let first = c.in_ok-outfit.ensures.places_are in
    let loggers = setup.loggers in
    let backtraces = c.in_ok-outfit.outfit.backtraces.items in
    let seats = c.in_ok-outfit.ensures.rooms in
    let parts = ap (λ k. k.parts) known in
    let seat_parts = ap (λ k. k.parts) seat in (
      subst (λ (h : HostedView S). IsHost h c.args.pass c.in_ok-outfit.outfit.losses places backtraces 0 0 setup.workers limit) (sym c.of.ensures)
          (record {
            left = record {
              pass_is = c.requires.ring.0;
              pass_faithful = subst IsFaithful (sym known) (record { legal = (tt, tt); own = refl; joined = tt; distinct = ((λ e. absurd e), tt) });
              some_places = c.requires.shape.2;
              pass_parts = omega (arith, parts);
              losses_are = c.in_ok-outfit.ensures.seat;
              losses_parts = omega (arith, seat_parts);
              sink_seat_parts = first_parts limit sinks places first;
              sink_seat_limits = first_limits limit sinks places first;
              backtrace_seat_parts = backtrace_seats_parts limit loggers backtraces seats;
              each = each2_length (IsBacktraceSeatOf limit) loggers backtraces seats;
              kept = backtrace_seats_kept limit loggers backtraces seats;
              queued = c.requires.ring.1;
              counts = inl refl;
              limits = c.requires.fits.limits;
              few = (omega arith, omega arith);
              pass_unused = (ap (λ k. k.own) known, ap (λ k. k.joined) known);
              losses_unused = (ap (λ k. k.own) seat, ap (λ k. k.joined) seat);
              sink_seats_unused = first_unused limit sinks places first;
              backtrace_seats_unused = backtrace_seats_idle limit loggers backtraces seats;
            };
            lanes = c.in_ok-outfit.ensures.lanes_are;
            backtrace_lanes = c.in_ok-outfit.ensures.backtrace_lanes_are;
            few = (omega arith, c.requires.workers.1);
          }),
      c.in_ok-outfit.ensures.room,
      c.in_ok-outfit.ensures.line_fits,
    )

pub returns : goal.returns
returns g c =
    let S = g.row.S.Denot in
    let setup = c.args.setup in
    let limit = setup.text_limit in
    let backtraces = c.in_ok-outfit.outfit.backtraces.items in
    record {
      lends = c.of.ensures;
      queue = (c.requires.shape.0, c.requires.shape.1);
      loggers = refl;
      gaps = refl;
      sinks = ap (λ (l : List (LaneId (Sink S))). map (λ (i : LaneId (Sink S)). i.first) l) (sym c.in_ok-outfit.ensures.lanes_are)
          ∙ first_lanes limit setup.sinks.items c.in_ok-outfit.outfit.places.items c.in_ok-outfit.ensures.places_are;
      rooms = ap (λ (l : List (LaneId Room)). map (λ (i : LaneId Room). i.first) l) (sym c.in_ok-outfit.ensures.backtrace_lanes_are)
          ∙ rooms_at backtraces
          ∙ backtrace_seats_rooms limit setup.loggers backtraces c.in_ok-outfit.ensures.rooms;
      none = (refl, refl);
      workers = refl;
      limit = refl;
      most = refl;
    }
