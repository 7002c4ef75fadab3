use Rattle.std.proofs.Common.{◌≡◌, ◌+◌, length, ap, refl, sym, subst, ◌∙◌, arith}
use Rattle.alog_hosted.proofs.Lanes.{given_idle}
use Rattle.alog_hosted.specs.Host.{HostView, Makes}
use Rattle.alog_hosted.specs.Lent.{HostedView}
use Rattle.alog_pool.specs.Places.{IsBacktraceSeatPart}
use Rattle.alog_pool.specs.Producer.{ProducerView}
use Rattle.alog_pool.specs.declared.shared.Shared.{Shared}
use Rattle.alog_pool.proofs.SharedHiring.{fresh_part, kept_faithful, one_less, still_own}
use Rattle.alog_pool.proofs.SharedParts.{each3_lengths, backtrace_seat_parts_left, backtrace_seats_limits, same_backtrace_seats, still_idle}
use Rattle.alog_pool.proofs.SharedPosting.{new_account}
use Rattle.alog_hosted.proofs.host.Host.producer.Goals as goal
use Rattle.alog_policy.specs.BookCalls.{IsSeatOf}
use Rattle.alog_registry.specs.Limit.{KeepsTo}
use Rattle.alog_ring.specs.Known.{IsPassOf}
use Rattle.alog_ring.specs.declared.TheConstants.{ALL_PARTS}

pub invariant_of-producer : goal.invariant_of-producer
invariant_of-producer g c =
    let S = g.row.S.Denot in
    let inside = c.self.inside in
    let left = c.self.invariant.0.left in
    let same : c.hosted.inside.shared ≡ inside.hosted.value.shared =
    ap (λ (h : HostedView S). h.shared) (c.hosted.view_is ∙ c.requires.hosted ∙ ap (λ (v : HostView S). v.hosted) (sym c.self.view_is)) in
    let is : c.of.result.value ≡ inside.hosted.value.shared = c.of.ensures ∙ same in
    let old = inside.backtraces.items in
    let new = c.share_backtraces.new.backtraces.items in
    let given = c.share_backtraces.new.given.items in
    let each = c.share_backtraces.ensures in
    let fresh = fresh_part inside.pass c.split.new.pass c.split.result c.split.ensures.split in
    let seat = c.split-2.ensures.split.new_seat in
    let blocks = c.in-Ok-two_blocks.ensures in
    let limit : c.of.result.value.ring.ring.limit.most ≡ inside.text_limit = ap (λ (s : Shared). s.ring.ring.limit.most) is ∙ left.queued in (
      record {
        pass = subst (λ (s : Shared). IsPassOf s.ring.ring c.split.result) (sym c.of.ensures) c.split.ensures.ring.1;
        losses_are = subst (λ (s : Shared). IsSeatOf s.book c.split-2.result) (sym c.of.ensures) c.split-2.ensures.seat.1;
        each = (each3_lengths IsBacktraceSeatPart old new given each).1 ∙ left.each ∙ ap (λ (s : Shared). length s.loggers) (sym is);
        kept = (backtrace_seats_limits inside.text_limit old new given each left.kept).1;
        queued = limit;
        limits = left.limits;
        account = new_account c.split.result.known c.split-2.result.known fresh.parts fresh.joined fresh.own (ap (λ k. k.parts) seat)
            (ap (λ k. k.joined) seat) (ap (λ k. k.own) seat);
      },
      (
        (refl, (blocks.0 ∙ sym limit, subst (λ x. KeepsTo c.of.result.value.ring.ring.limit.most x) (sym blocks.1) tt)),
        (refl, (blocks.2 ∙ sym limit, subst (λ x. KeepsTo c.of.result.value.ring.ring.limit.most x) (sym blocks.3) tt)),
      ),
    )

pub invariant_of-self : goal.invariant_of-self
invariant_of-self g c =
    let S = g.row.S.Denot in
    let inside = c.self.inside in
    let host = c.self.invariant.0 in
    let left = host.left in
    let same : c.hosted.inside.shared ≡ inside.hosted.value.shared =
    ap (λ (h : HostedView S). h.shared) (c.hosted.view_is ∙ c.requires.hosted ∙ ap (λ (v : HostView S). v.hosted) (sym c.self.view_is)) in
    let old = inside.backtraces.items in
    let new = c.share_backtraces.new.backtraces.items in
    let given = c.share_backtraces.new.given.items in
    let each = c.share_backtraces.ensures in
    let more = c.if-self-ge-PRODUCERS_MAX.false in
    let hired = left.few.1 in
    let parts = left.pass_parts in
    let losses = left.losses_parts in
    let kept = c.split-2.ensures.split.kept in
    let kept_parts = ap (λ k. k.parts) kept in
    let own = still_own inside.pass c.split.new.pass c.split.result c.split.ensures.split in
    let less = one_less inside.pass c.split.new.pass c.split.result _ ALL_PARTS c.split.ensures.split (omega (arith, more, hired, parts)) parts in (
      record {
        left = record {
          pass_is = subst (λ (s : Shared). IsPassOf s.ring.ring c.split.new.pass) same c.split.ensures.ring.0;
          pass_faithful = kept_faithful inside.pass c.split.new.pass c.split.result c.split.ensures.split left.pass_faithful;
          some_places = left.some_places;
          pass_parts = omega (arith, less);
          losses_are = subst (λ (s : Shared). IsSeatOf s.book c.split-2.new.seat) same c.split-2.ensures.seat.0;
          losses_parts = omega (arith, losses, kept_parts, more);
          sink_seat_parts = left.sink_seat_parts;
          sink_seat_limits = left.sink_seat_limits;
          backtrace_seat_parts = backtrace_seat_parts_left inside.made old new given (omega (arith, more)) each left.backtrace_seat_parts;
          each = (each3_lengths IsBacktraceSeatPart old new given each).0 ∙ left.each;
          kept = (backtrace_seats_limits inside.text_limit old new given each left.kept).0;
          queued = left.queued;
          counts = left.counts;
          limits = left.limits;
          few = (omega (arith, more), hired);
          pass_unused = (own.0 ∙ left.pass_unused.0, own.1 ∙ left.pass_unused.1);
          losses_unused = (ap (λ k. k.own) kept ∙ left.losses_unused.0, ap (λ k. k.joined) kept ∙ left.losses_unused.1);
          sink_seats_unused = left.sink_seats_unused;
          backtrace_seats_unused = still_idle old new given each left.backtrace_seats_unused;
        };
        lanes = host.lanes;
        backtrace_lanes = (same_backtrace_seats old new given each).1 ∙ host.backtrace_lanes;
        few = host.few;
      },
      c.self.invariant.1,
      c.self.invariant.2,
    )

pub returns-clause-made : goal.returns-clause-made
returns-clause-made g c =
    let S = g.row.S.Denot in
    let inside = c.self.inside in
    let host = c.self.invariant.0 in
    let same : c.hosted.inside.shared ≡ inside.hosted.value.shared =
    ap (λ (h : HostedView S). h.shared) (c.hosted.view_is ∙ c.requires.hosted ∙ ap (λ (v : HostView S). v.hosted) (sym c.self.view_is)) in
    let old = inside.backtraces.items in
    let new = c.share_backtraces.new.backtraces.items in
    let given = c.share_backtraces.new.given.items in
    let fresh = fresh_part inside.pass c.split.new.pass c.split.result c.split.ensures.split in
    let lanes = same_backtrace_seats old new given c.share_backtraces.ensures in
    let after : HostView S = record {
      hosted = inside.hosted.value;
      pass = c.split.new.pass;
      losses = c.split-2.new.seat;
      places = inside.places.items;
      backtraces = new;
      made = inside.made + 1;
      hired = inside.hired;
      workers = inside.workers;
      limit = inside.text_limit;
      most = inside.tickets_max;
    } in
    let producer : ProducerView = record {
      shared = c.of.result.value;
      pass = c.split.result;
      losses = c.split-2.result;
      backtrace_seats = given;
      number = inside.made;
      limit = inside.text_limit;
    } in
    subst (λ (v : HostView S). Makes v after producer) c.self.view_is
    (record {
      of = record { shared = c.of.ensures ∙ same; backtraces = lanes.0 ∙ host.backtrace_lanes };
      number = refl;
      limit = refl;
      entries = (fresh.own, ap (λ k. k.own) c.split-2.ensures.split.new_seat);
      idle = given_idle old new given c.share_backtraces.ensures;
      made = refl;
      hired = refl;
      same = record { hosted = refl; workers = refl; limit = refl; most = refl };
    })
