use Rattle.std.proofs.Common.{◌≤◌, List, length, ap, refl, sym, subst, ◌∙◌, arith}
use Rattle.std.specs.Arc.{arc_value}
use Rattle.alog_pool.proofs.SharedFirstParts.{first_lanes, first_limits, first_parts, first_unused, backtrace_seats_idle, backtrace_seats_kept, backtrace_seats_parts, backtrace_seats_rooms}
use Rattle.alog_pool.proofs.SharedGaps.{counts_from}
use Rattle.alog_pool.proofs.SharedSharing.{each2_length}
use Rattle.alog_pool.specs.Places.{Each2, IsBacktraceSeatOf}
use Rattle.alog_pool.specs.declared.shared.Shared.{Shared}
use Rattle.alog_pool.proofs.pool_parts.PoolParts.new.Goals as goal
use Rattle.alog_msg.specs.Block.{BlockFields}
use Rattle.alog_registry.specs.Limit.{HoldsTo}
use Rattle.alog_registry.specs.declared.limit.TextLimit.{TextLimit}
use Rattle.alog_registry.specs.declared.logger.Logger.{Logger}
use Rattle.alog_ring.specs.Known.{IsPassOf}
use Rattle.alog_ring.specs.Swaps.{SwapId}
use Rattle.alog_ring.specs.Made.{IsFaithful}

pub returns : goal.returns
returns g c =
    let setup = c.args.setup in
    let shared = c.in_ok-shared.ensures in
    let first = c.in_ok-sink_seats.ensures in
    let backtrace_seats = subst (λ (ls : List Logger). Each2 (IsBacktraceSeatOf setup.text_limit) ls c.in_ok-backtrace_seats.backtrace_seats.items)
    (ap (λ (s : Shared). s.loggers) c.deref.ensures ∙ shared.loggers) c.in_ok-backtrace_seats.ensures in
    let known = c.requires.pass in
    let queued = ap (λ (r : SwapId TextLimit BlockFields). r.ring.limit.most) shared.ring ∙ c.requires.ring.1 in
    record {
      stands = record {
        pass_is = subst (λ (r : SwapId TextLimit BlockFields). IsPassOf r.ring c.args.pass) (sym shared.ring) c.requires.ring.0;
        pass_faithful = subst IsFaithful (sym known) (record { legal = (tt, tt); own = refl; joined = tt; distinct = ((λ e. absurd e), tt) });
        some_places = subst (λ (r : SwapId TextLimit BlockFields). 1 ≤ r.ring.places) (sym shared.ring) c.requires.places;
        pass_parts = (let parts = ap (λ k. k.parts) known in omega (arith, parts));
        losses_are = shared.seat;
        losses_parts = (let parts = ap (λ k. k.parts) shared.known in omega (arith, parts));
        sink_seat_parts = first_parts setup.text_limit setup.sinks.items c.in_ok-sink_seats.sink_seats.items first;
        sink_seat_limits = first_limits setup.text_limit setup.sinks.items c.in_ok-sink_seats.sink_seats.items first;
        backtrace_seat_parts = backtrace_seats_parts setup.text_limit setup.loggers c.in_ok-backtrace_seats.backtrace_seats.items backtrace_seats;
        each = each2_length (IsBacktraceSeatOf setup.text_limit) setup.loggers c.in_ok-backtrace_seats.backtrace_seats.items backtrace_seats
            ∙ ap (λ (ls : List Logger). length ls) (sym shared.loggers);
        kept = backtrace_seats_kept setup.text_limit setup.loggers c.in_ok-backtrace_seats.backtrace_seats.items backtrace_seats;
        queued = queued;
        counts = counts_from setup (arc_value c.in_ok-shared.shared) (shared.gaps ∙ c.told_from-gaps.ensures)
            (ap (λ (r : SwapId TextLimit BlockFields). r.ring.first) shared.ring ∙ c.requires.first);
        limits = c.requires.fits.limits;
        few = (omega arith, omega arith);
        pass_unused = (ap (λ k. k.own) known, ap (λ k. k.joined) known);
        losses_unused = (ap (λ k. k.own) shared.known, ap (λ k. k.joined) shared.known);
        sink_seats_unused = first_unused setup.text_limit setup.sinks.items c.in_ok-sink_seats.sink_seats.items first;
        backtrace_seats_unused = backtrace_seats_idle setup.text_limit setup.loggers c.in_ok-backtrace_seats.backtrace_seats.items
            backtrace_seats;
      };
      block = subst (λ (b : BlockFields). HoldsTo (arc_value c.in_ok-shared.shared).ring.ring.limit b) (sym c.in_ok-block.ensures)
          (sym queued, tt);
      ring_is = ap (λ (r : SwapId TextLimit BlockFields). r.ring) shared.ring;
      loggers = shared.loggers;
      gaps = shared.gaps ∙ c.told_from-gaps.ensures;
      pass = known;
      sinks = first_lanes setup.text_limit setup.sinks.items c.in_ok-sink_seats.sink_seats.items first;
      rooms = backtrace_seats_rooms setup.text_limit setup.loggers c.in_ok-backtrace_seats.backtrace_seats.items backtrace_seats;
      workers = refl;
      most = refl;
      limit = refl;
    }
