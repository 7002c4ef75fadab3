use Rattle.std.proofs.Common.{◌≡◌, ◌<◌, ◌+◌, List, [], length, ap, refl, sym, subst, ◌∙◌, arith}
use Rattle.alog_core.specs.Accounts.{takes}
use Rattle.alog_core.specs.History.{Entry}
use Rattle.alog_hosted.specs.Host.{HasRoom, Hires, HostView}
use Rattle.alog_hosted.specs.Lent.{HostedView}
use Rattle.alog_hosted.specs.Workers.{WorkerView}
use Rattle.alog_msg.specs.Block.{BlockFields}
use Rattle.alog_msg.specs.declared.item.Item.{Item}
use Rattle.alog_pool.specs.Deeds.{all_dues}
use Rattle.alog_pool.specs.Places.{IsPart}
use Rattle.alog_pool.specs.Working.{IsWorkOf}
use Rattle.alog_pool.specs.declared.shared.Shared.{Shared}
use Rattle.alog_pool.proofs.SharedDeeds.{have_none}
use Rattle.alog_pool.proofs.SharedHiring.{fresh_part, fresh_work, kept_faithful, limited, one_less, still_own}
use Rattle.alog_pool.proofs.SharedParts.{each3_lengths, sink_seat_limits, sink_seat_parts_left, given_new, same_lanes, still_unused}
use Rattle.alog_hosted.proofs.host.Host.worker.Goals as goal
use Rattle.alog_registry.specs.BlockPort.{block_note}
use Rattle.alog_registry.specs.Limit.{HoldsTo}
use Rattle.alog_ring.specs.Known.{IsPassOf}
use Rattle.alog_ring.specs.declared.TheConstants.{ALL_PARTS}

pub invariant_of-worker : goal.invariant_of-worker
invariant_of-worker g c =
    let S = g.row.S.Denot in
    let inside = c.self.inside in
    let left = c.self.invariant.0.left in
    let same : c.hosted.inside.shared ≡ inside.hosted.value.shared =
    ap (λ (h : HostedView S). h.shared) (c.hosted.view_is ∙ c.requires.hosted ∙ ap (λ (v : HostView S). v.hosted) (sym c.self.view_is)) in
    let old = inside.places.items in
    let new = c.share_places.new.places.items in
    let given = c.share_places.new.given.items in
    let each = c.share_places.ensures in
    let fresh = fresh_part inside.pass c.split.new.pass c.split.result c.split.ensures.split in
    let tools = c.in-Ok.ensures in
    let queued : c.of.result.value.ring.ring.limit.most ≡ inside.text_limit =
    ap (λ (s : Shared). s.ring.ring.limit.most) (c.of.ensures ∙ same) ∙ left.queued in (
      record {
        ring = subst (λ (s : Shared). IsPassOf s.ring.ring c.split.result) (sym c.of.ensures) c.split.ensures.ring.1;
        work = subst (λ l. IsWorkOf inside.tickets_max c.split.result.known l 0) (sym tools.tickets.0)
            (fresh_work inside.tickets_max c.split.result.known fresh);
        block_fits = subst (λ (b : BlockFields). HoldsTo c.of.result.value.ring.ring.limit b) (sym tools.block) (sym queued, tt);
        limits = limited _ inside.text_limit given queued (sink_seat_limits inside.text_limit old new given each left.sink_seat_limits).1;
        start = given;
        began = given_new old new given each;
        same = refl;
        made = [];
        all = ap (λ (h : List (Entry Item block_note)). all_dues c.of.result.value.loggers (takes h)) fresh.own;
        turns = have_none 0 given;
      },
      tools.line,
      tools.tickets.1,
      tt,
    )

pub invariant_of-self : goal.invariant_of-self
invariant_of-self g c =
    let S = g.row.S.Denot in
    let inside = c.self.inside in
    let host = c.self.invariant.0 in
    let left = host.left in
    let same : c.hosted.inside.shared ≡ inside.hosted.value.shared =
    ap (λ (h : HostedView S). h.shared) (c.hosted.view_is ∙ c.requires.hosted ∙ ap (λ (v : HostView S). v.hosted) (sym c.self.view_is)) in
    let old = inside.places.items in
    let new = c.share_places.new.places.items in
    let given = c.share_places.new.given.items in
    let each = c.share_places.ensures in
    let split = c.split.ensures.split in
    let more = c.if-self.false in
    let workers = host.few.1 in
    let made = left.few.0 in
    let few : inside.hired < 64 = omega (arith, more, workers) in
    let parts = left.pass_parts in
    let own = still_own inside.pass c.split.new.pass c.split.result split in
    let less = one_less inside.pass c.split.new.pass c.split.result _ ALL_PARTS split (omega (arith, few, made, parts)) parts in
    let long : length old ≡ length new = sym (each3_lengths IsPart old new given each).0 in (
      record {
        left = record {
          pass_is = subst (λ (s : Shared). IsPassOf s.ring.ring c.split.new.pass) same c.split.ensures.ring.0;
          pass_faithful = kept_faithful inside.pass c.split.new.pass c.split.result split left.pass_faithful;
          some_places = left.some_places;
          pass_parts = omega (arith, less);
          losses_are = left.losses_are;
          losses_parts = left.losses_parts;
          sink_seat_parts = sink_seat_parts_left inside.hired old new given few each left.sink_seat_parts;
          sink_seat_limits = (sink_seat_limits inside.text_limit old new given each left.sink_seat_limits).0;
          backtrace_seat_parts = left.backtrace_seat_parts;
          each = left.each;
          kept = left.kept;
          queued = left.queued;
          counts = left.counts;
          limits = left.limits;
          few = (made, omega (arith, few));
          pass_unused = (own.0 ∙ left.pass_unused.0, own.1 ∙ left.pass_unused.1);
          losses_unused = left.losses_unused;
          sink_seats_unused = still_unused old new given each left.sink_seats_unused;
          backtrace_seats_unused = left.backtrace_seats_unused;
        };
        lanes = (same_lanes old new given each).0 ∙ host.lanes;
        backtrace_lanes = host.backtrace_lanes;
        few = (omega (arith, more), workers);
      },
      subst (λ n. HasRoom inside.workers n inside.blank) long c.self.invariant.1,
      c.self.invariant.2,
    )

pub returns-clause-hired : goal.returns-clause-hired
returns-clause-hired g c =
    let S = g.row.S.Denot in
    let inside = c.self.inside in
    let host = c.self.invariant.0 in
    let same : c.hosted.inside.shared ≡ inside.hosted.value.shared =
    ap (λ (h : HostedView S). h.shared) (c.hosted.view_is ∙ c.requires.hosted ∙ ap (λ (v : HostView S). v.hosted) (sym c.self.view_is)) in
    let old = inside.places.items in
    let new = c.share_places.new.places.items in
    let given = c.share_places.new.given.items in
    let fresh = fresh_part inside.pass c.split.new.pass c.split.result c.split.ensures.split in
    let after : HostView S = record {
      hosted = inside.hosted.value;
      pass = c.split.new.pass;
      losses = inside.losses;
      places = new;
      backtraces = inside.backtraces.items;
      made = inside.made;
      hired = inside.hired + 1;
      workers = inside.workers;
      limit = inside.text_limit;
      most = inside.tickets_max;
    } in
    let worker : WorkerView S = record {
      shared = c.of.result.value;
      pass = c.split.result;
      places = given;
      tickets = c.in-Ok.tools.tickets.items;
      handled = 0;
      number = inside.hired;
      most = inside.tickets_max;
      half = 0;
      owed = [];
    } in
    subst (λ (v : HostView S). Hires v after worker) c.self.view_is
    (record {
      of = record { shared = c.of.ensures ∙ same; lanes = (same_lanes old new given c.share_places.ensures).1 ∙ host.lanes };
      number = refl;
      most = refl;
      entries = (fresh.own, refl);
      places = given_new old new given c.share_places.ensures;
      made = refl;
      hired = refl;
      same = record { hosted = refl; workers = refl; limit = refl; most = refl };
    })
