use Rattle.std.proofs.Common.{List, ap, refl, sym, subst, ◌∙◌, arith}
use Rattle.std.specs.Arc.{arc_value}
use Rattle.alog_core.specs.Accounts.{taken}
use Rattle.alog_core.specs.History.{Entry}
use Rattle.alog_msg.specs.declared.item.Item.{Item}
use Rattle.alog_pool.specs.Accounts.{of_stops}
use Rattle.alog_pool.specs.Gaps.{CanTell}
use Rattle.alog_pool.specs.Working.{IsWorkOf}
use Rattle.alog_pool.specs.declared.shared.Shared.{Shared}
use Rattle.alog_pool.proofs.SharedHiring.{fresh_part, fresh_work, kept_faithful, limited, one_less, still_own}
use Rattle.alog_pool.proofs.SharedParts.{sink_seat_limits, sink_seat_parts_left, given_new, same_lanes, still_unused}
use Rattle.alog_pool.proofs.pool_parts.PoolParts.worker.Goals as goal
use Rattle.alog_msg.specs.Block.{BlockFields}
use Rattle.alog_registry.specs.BlockPort.{block_note}
use Rattle.alog_registry.specs.Limit.{HoldsTo}
use Rattle.alog_ring.specs.Known.{IsPassOf}
use Rattle.alog_ring.specs.declared.TheConstants.{ALL_PARTS}

pub returns-clause-hires : goal.returns-clause-hires
returns-clause-hires g c = λ n stands few.
    let now = c.args.self.now in
    let shared = arc_value now.shared in
    let old = now.sink_seats.items in
    let new = c.parts_of.new.sink_seats.items in
    let given = c.in_ok-sink_seats.sink_seats.items in
    let each = c.in_ok-sink_seats.ensures in
    let split = c.split-pass.ensures.split in
    let own = still_own now.pass c.split-pass.new.pass c.split-pass.result split in
    let limits = sink_seat_limits now.text_limit old new given each stands.sink_seat_limits in
    let fresh = fresh_part now.pass c.split-pass.new.pass c.split-pass.result split in
    let parts = stands.pass_parts in
    let ring = subst (λ (s : Shared). IsPassOf s.ring.ring c.split-pass.new.pass) c.deref-2.ensures c.split-pass.ensures.ring.0 in
    let given_ring = subst (λ (s : Shared). IsPassOf s.ring.ring c.split-pass.result) c.deref-2.ensures c.split-pass.ensures.ring.1 in
    let left = one_less now.pass c.split-pass.new.pass c.split-pass.result n ALL_PARTS split (omega (arith, few, parts)) (omega (arith, parts)) in
    let queued = ap (λ (s : Shared). s.ring.ring.limit.most) c.in_ok-shared.ensures ∙ stands.queued in
    record {
      stands = record {
        pass_is = ring;
        pass_faithful = kept_faithful now.pass c.split-pass.new.pass c.split-pass.result split stands.pass_faithful;
        some_places = stands.some_places;
        pass_parts = omega (arith, left);
        losses_are = stands.losses_are;
        losses_parts = stands.losses_parts;
        sink_seat_parts = sink_seat_parts_left n old new given few each stands.sink_seat_parts;
        sink_seat_limits = limits.0;
        backtrace_seat_parts = stands.backtrace_seat_parts;
        each = stands.each;
        kept = stands.kept;
        queued = stands.queued;
        counts = stands.counts;
        limits = stands.limits;
        few = (stands.few.0, omega (arith, few));
        pass_unused = (own.0 ∙ stands.pass_unused.0, own.1 ∙ stands.pass_unused.1);
        losses_unused = stands.losses_unused;
        sink_seats_unused = still_unused old new given each stands.sink_seats_unused;
        backtrace_seats_unused = stands.backtrace_seats_unused;
      };
      shared = refl;
      lanes = (same_lanes old new given each).0;
      backtrace_seats = refl;
      kept = (refl, refl, refl);
      begins = record {
        at_work = record {
          shared = refl;
          ring = subst (λ (s : Shared). IsPassOf s.ring.ring c.split-pass.result) (sym c.in_ok-shared.ensures) given_ring;
          work = subst (λ l. IsWorkOf now.tickets_max c.split-pass.result.known l 0) (sym c.in_ok-tools.ensures.tickets.0)
              (fresh_work now.tickets_max c.split-pass.result.known fresh);
          stops = ap (λ (h : List (Entry Item block_note)). taken of_stops h) fresh.own;
          most = refl;
          number = refl;
          room = c.in_ok-tools.ensures.tickets.1;
          line = c.in_ok-tools.ensures.line;
          block = subst (λ (b : BlockFields). HoldsTo (arc_value c.in_ok-shared.shared).ring.ring.limit b) (sym c.in_ok-tools.ensures.block)
              (sym queued, tt);
          places = refl;
          limits = limited _ now.text_limit given queued limits.1;
          tells = subst (λ n. CanTell n c.in_ok-tools.tools.gaps) (sym queued) c.in_ok-tools.ensures.gaps.1;
        };
        fresh = fresh;
        shares = c.in_ok-shared.ensures;
        most_is = refl;
        gaps_are = c.in_ok-tools.ensures.gaps.0 ∙ ap (λ (s : Shared). s.gaps) (c.deref.ensures ∙ c.in_ok-shared.ensures);
        lanes_are = (same_lanes old new given each).1;
        seats = given_new old new given each;
      };
    }

pub returns-clause-queue : goal.returns-clause-queue
returns-clause-queue g c =
    let stands = c.requires.stands.1 in
    let now = c.args.self.now in
    let split = c.split-pass.ensures.split in (
      subst (λ (s : Shared). IsPassOf s.ring.ring c.split-pass.new.pass) c.deref-2.ensures c.split-pass.ensures.ring.0,
      kept_faithful now.pass c.split-pass.new.pass c.split-pass.result split stands.pass_faithful,
    )
