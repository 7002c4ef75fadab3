use Rattle.std.proofs.Common.{◌≡◌, ◌+◌, length, map, ap, refl, sym, subst, ◌∙◌, arith}
use Rattle.std.specs.Arc.{arc_value}
use Rattle.std.specs.declared.thread.PromisedHandle.{PromisedHandle}
use Rattle.alog_pool.specs.Pool.{Makes, PoolView}
use Rattle.alog_pool.specs.Producer.{ProducerView}
use Rattle.alog_pool.specs.declared.worker.Worker.{Worker}
use Rattle.alog_pool.specs.declared.works.Works.{Works}
use Rattle.alog_pool.specs.Places.{IsBacktraceSeatPart}
use Rattle.alog_pool.specs.declared.shared.Shared.{Shared}
use Rattle.alog_pool.proofs.SharedHiring.{fresh_part, kept_faithful, one_less, still_own}
use Rattle.alog_pool.proofs.SharedParts.{each3_lengths, backtrace_seat_parts_left, backtrace_seats_limits, same_backtrace_seats, still_idle}
use Rattle.alog_pool.proofs.SharedPosting.{new_account}
use Rattle.alog_pool.proofs.pool.Pool.producer.Goals as goal
use Rattle.alog_policy.specs.BookCalls.{IsSeatOf}
use Rattle.alog_registry.specs.Limit.{KeepsTo}
use Rattle.alog_ring.specs.Known.{IsPassOf}
use Rattle.alog_ring.specs.declared.TheConstants.{ALL_PARTS}

pub invariant_of-producer : goal.invariant_of-producer
invariant_of-producer g c =
    let inside = c.self.inside in
    let left = c.self.invariant.0.left in
    let old = inside.backtrace_seats.items in
    let new = c.share_backtrace_seats.new.backtrace_seats.items in
    let given = c.share_backtrace_seats.new.given.items in
    let each = c.share_backtrace_seats.ensures in
    let fresh = fresh_part inside.pass c.split.new.pass c.split.result c.split.ensures.split in
    let seat = c.split-2.ensures.split.new_seat in
    let blocks = c.in-Ok-two_blocks.ensures in
    let limit : (arc_value c.in-Ok.shared).ring.ring.limit.most ≡ inside.text_limit =
    ap (λ (s : Shared). s.ring.ring.limit.most) c.in-Ok.ensures ∙ left.queued in (
      record {
        pass = subst (λ (s : Shared). IsPassOf s.ring.ring c.split.result) c.deref-2.ensures c.split.ensures.ring.1;
        losses_are = subst (λ (s : Shared). IsSeatOf s.book c.split-2.result) c.deref-4.ensures c.split-2.ensures.seat.1;
        each = (each3_lengths IsBacktraceSeatPart old new given each).1 ∙ left.each ∙ ap (λ (s : Shared). length s.loggers) (sym c.in-Ok.ensures);
        kept = (backtrace_seats_limits inside.text_limit old new given each left.kept).1;
        queued = ap (λ (s : Shared). s.ring.ring.limit.most) c.in-Ok.ensures ∙ left.queued;
        limits = left.limits;
        account = new_account c.split.result.known c.split-2.result.known fresh.parts fresh.joined fresh.own (ap (λ k. k.parts) seat)
            (ap (λ k. k.joined) seat) (ap (λ k. k.own) seat);
      },
      (
        (refl, (blocks.0 ∙ sym limit, subst (λ x. KeepsTo (arc_value c.in-Ok.shared).ring.ring.limit.most x) (sym blocks.1) tt)),
        (refl, (blocks.2 ∙ sym limit, subst (λ x. KeepsTo (arc_value c.in-Ok.shared).ring.ring.limit.most x) (sym blocks.3) tt)),
      ),
    )

pub invariant_of-self : goal.invariant_of-self
invariant_of-self g c =
    let inside = c.self.inside in
    let left = c.self.invariant.0.left in
    let old = inside.backtrace_seats.items in
    let new = c.share_backtrace_seats.new.backtrace_seats.items in
    let given = c.share_backtrace_seats.new.given.items in
    let each = c.share_backtrace_seats.ensures in
    let more = c.if-self-ge-PRODUCERS_MAX.false in
    let hired = left.few.1 in
    let parts = left.pass_parts in
    let losses = left.losses_parts in
    let kept = c.split-2.ensures.split.kept in
    let kept_parts = ap (λ k. k.parts) kept in
    let own = still_own inside.pass c.split.new.pass c.split.result c.split.ensures.split in
    let less = one_less inside.pass c.split.new.pass c.split.result _ ALL_PARTS c.split.ensures.split (omega (arith, more, hired, parts)) parts in (
      record {
        left = record {
          pass_is = subst (λ (s : Shared). IsPassOf s.ring.ring c.split.new.pass) (c.deref-2.ensures ∙ c.in-Ok.ensures) c.split.ensures.ring.0;
          pass_faithful = kept_faithful inside.pass c.split.new.pass c.split.result c.split.ensures.split left.pass_faithful;
          some_places = left.some_places;
          pass_parts = omega (arith, less);
          losses_are = subst (λ (s : Shared). IsSeatOf s.book c.split-2.new.seat) (c.deref-4.ensures ∙ c.in-Ok.ensures) c.split-2.ensures.seat.0;
          losses_parts = omega (arith, losses, kept_parts, more);
          sink_seat_parts = left.sink_seat_parts;
          sink_seat_limits = left.sink_seat_limits;
          backtrace_seat_parts = backtrace_seat_parts_left inside.made old new given (omega (arith, more)) each left.backtrace_seat_parts;
          each = (each3_lengths IsBacktraceSeatPart old new given each).0 ∙ left.each;
          kept = (backtrace_seats_limits inside.text_limit old new given each left.kept).0;
          queued = left.queued;
          counts = left.counts;
          limits = left.limits;
          few = (omega (arith, more), hired);
          pass_unused = (own.0 ∙ left.pass_unused.0, own.1 ∙ left.pass_unused.1);
          losses_unused = (ap (λ k. k.own) kept ∙ left.losses_unused.0, ap (λ k. k.joined) kept ∙ left.losses_unused.1);
          sink_seats_unused = left.sink_seats_unused;
          backtrace_seats_unused = still_idle old new given each left.backtrace_seats_unused;
        };
        some = c.self.invariant.0.some;
        began = c.self.invariant.0.began;
      },
      c.self.invariant.1,
      c.self.invariant.2,
    )

pub returns-clause-made : goal.returns-clause-made
returns-clause-made g c =
    let S = g.row.S.Denot in
    let inside = c.self.inside in
    let old = inside.backtrace_seats.items in
    let new = c.share_backtrace_seats.new.backtrace_seats.items in
    let given = c.share_backtrace_seats.new.given.items in
    let fresh = fresh_part inside.pass c.split.new.pass c.split.result c.split.ensures.split in
    let lanes = same_backtrace_seats old new given c.share_backtrace_seats.ensures in
    let after : PoolView S = record {
      shared = arc_value inside.shared;
      pass = c.split.new.pass;
      losses = c.split-2.new.seat;
      sink_seats = inside.sink_seats.items;
      backtrace_seats = new;
      made = inside.made + 1;
      limit = inside.text_limit;
      most = inside.tickets_max;
      crew = map (λ (h : PromisedHandle (Worker S) (Works S)). h.promise.start.value) inside.workers.items;
    } in
    let producer : ProducerView = record {
      shared = arc_value c.in-Ok.shared;
      pass = c.split.result;
      losses = c.split-2.result;
      backtrace_seats = given;
      number = inside.made;
      limit = inside.text_limit;
    } in
    subst (λ (v : PoolView S). Makes v after producer) c.self.view_is
    (record {
      shared = c.in-Ok.ensures;
      number = refl;
      limit = refl;
      entries = (fresh.own, ap (λ k. k.own) c.split-2.ensures.split.new_seat);
      made = refl;
      same = (refl, refl, refl, refl);
      lanes = refl;
      kept = lanes;
    })
