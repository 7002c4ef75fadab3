use Rattle.std.proofs.Common.{◌≡◌, ◌≢◌, ◌<◌, Some, length, refl, sym, ap, subst, ◌∙◌, arith}
use Rattle.std.specs.Prelude.{IfOk, slice_get, slice_set}
use Rattle.std.proofs.lemmas.Int.{to_z-of_z}
use Rattle.std.proofs.lemmas.Option.{same_Some, slice_get_read}
use Rattle.alog_hosted.proofs.Onces.{lanes_set}
use Rattle.alog_hosted.specs.Lent.{HostedView}
use Rattle.alog_lane.specs.declared.seat.TheConstants.{ALL_PARTS}
use Rattle.alog_policy.specs.SwapPort.{SwapDid}
use Rattle.alog_policy.specs.Progress.{without_waiting}
use Rattle.alog_pool.proofs.SharedProducing.{lent_dump, port_after}
use Rattle.alog_pool.specs.BacktraceSeat.{BacktraceSeatView}
use Rattle.alog_pool.specs.Pool.{backtrace_seat_lanes}
use Rattle.alog_pool.specs.Producer.{ProducerView, Lent, IsSame}
use Rattle.alog_pool.specs.declared.shared.Shared.{Shared}
use Rattle.alog_registry.specs.Backtrace.{Room}
use Rattle.alog_registry.specs.Dumping.{PostsEach, posted_of}
use Rattle.alog_registry.specs.LaneKeeper.{DumpsByTurn}
use Rattle.alog_registry.specs.Listed.{spec_at}
use Rattle.alog_registry.specs.declared.logger.Spec.{Spec}
use Rattle.alog_hosted.proofs.producer.HostedProducer.dump_once.Goals as goal

pub returns-clause-dumped : goal.returns-clause-dumped
returns-clause-dumped g c =
    let i = c.self.inside in
    let v : ProducerView = record {
      shared = i.shared.value;
      pass = i.pass;
      losses = i.losses;
      backtrace_seats = i.backtraces.items;
      number = i.number;
      limit = i.text_limit;
    } in
    let new : ProducerView = record {
      shared = i.shared.value;
      pass = c.dump_once.new.port.pass.now;
      losses = c.dump_once.new.port.seat.now;
      backtrace_seats = slice_set i.backtraces.items c.args.number c.dump_once.new.self;
      number = i.number;
      limit = i.text_limit;
    } in
    let same : c.hosted.inside.shared ≡ v.shared =
    ap (λ (h : HostedView g.row.S.Denot). h.shared) c.hosted.view_is ∙ sym c.requires.of.shared
    ∙ sym (ap (λ (w : ProducerView). w.shared) c.self.view_is) in
    let known : c.args.number < length c.hosted.inside.shared.loggers =
    subst (λ (h : HostedView g.row.S.Denot). c.args.number < length h.shared.loggers) (sym c.hosted.view_is) c.requires.known in
    let known : c.args.number < length v.shared.loggers = subst (λ (x : Shared). c.args.number < length x.loggers) same known in
    let low : c.args.number < length i.backtraces.items = omega (arith, known, c.self.invariant.0.each) in
    let place = c.index_mut.result.now in
    let found : slice_get i.backtraces.items c.args.number ≡ Some place =
    slice_get_read i.backtraces.items (length i.backtraces.items) c.args.number place refl low c.index_mut.ensures.value in
    let dumped = simp (to_z-of_z, c.ranges.time) at c.dump_once.ensures.dumped in
    let P : ProducerView → Type 0 = λ w. (s : Spec) → spec_at c.hosted.inside.shared.loggers c.args.number ≡ Some s
    → IfOk c.dump_once.result (λ x. Lent w new c.args.number (λ p k q l. (d : Room) × DumpsByTurn k d l
    × PostsEach SwapDid (without_waiting s.policy) (posted_of c.args.number c.args.time w.number d.messages) p x.items q)) in
    λ s e. subst P c.self.view_is (λ s e.
    lent_dump (λ x. x.items) (without_waiting s.policy) c.args.number c.args.time i.number {old = v} c.args.number c.dump_once.new.self
    c.dump_once.result
    (record {
      ring = ap (λ (x : Shared). x.ring) same;
      book = ap (λ (x : Shared). x.book) same;
      pass = refl;
      losses = refl;
    })
    (port_after new _ c.dump_once.new.port (ap (λ (x : Shared). x.ring) same) (ap (λ (x : Shared). x.book) same) c.dump_once.ensures.port.1 refl
    refl)
    found refl (dumped s e)) s (ap (λ (h : HostedView g.row.S.Denot). spec_at h.shared.loggers c.args.number) c.hosted.view_is ∙ e)

pub returns-clause-held : goal.returns-clause-held
returns-clause-held g c =
    let i = c.self.inside in
    let known : c.args.number < length c.hosted.inside.shared.loggers =
    subst (λ (h : HostedView g.row.S.Denot). c.args.number < length h.shared.loggers) (sym c.hosted.view_is) c.requires.known in
    let same : c.hosted.inside.shared ≡ i.shared.value =
    ap (λ (h : HostedView g.row.S.Denot). h.shared) c.hosted.view_is ∙ sym c.requires.of.shared
    ∙ sym (ap (λ (w : ProducerView). w.shared) c.self.view_is) in
    let known : c.args.number < length i.shared.value.loggers = subst (λ (x : Shared). c.args.number < length x.loggers) same known in
    let low : c.args.number < length i.backtraces.items = omega (arith, known, c.self.invariant.0.each) in
    let place = c.index_mut.result.now in
    let found : slice_get i.backtraces.items c.args.number ≡ Some place =
    slice_get_read i.backtraces.items (length i.backtraces.items) c.args.number place refl low c.index_mut.ensures.value in
    λ k e h.
    let there = ap (λ (w : ProducerView). slice_get w.backtrace_seats c.args.number) c.self.view_is ∙ e in
    subst (λ (z : BacktraceSeatView). z.seat.known.parts ≢ ALL_PARTS) (same_Some _ _ (sym found ∙ there)) (c.dump_once.ensures.held h)

pub returns-clause-same : goal.returns-clause-same
returns-clause-same g c =
    let i = c.self.inside in
    let new : ProducerView = record {
      shared = i.shared.value;
      pass = c.dump_once.new.port.pass.now;
      losses = c.dump_once.new.port.seat.now;
      backtrace_seats = slice_set i.backtraces.items c.args.number c.dump_once.new.self;
      number = i.number;
      limit = i.text_limit;
    } in
    let place = c.index_mut.result.now in
    let lane = c.dump_once.ensures.lane ∙ ap (λ (k : BacktraceSeatView). k.lane) c.index_mut.ensures.value in
    let P : ProducerView → Type 0 =
    λ w. IsSame w new × (backtrace_seat_lanes new.backtrace_seats ≡ backtrace_seat_lanes w.backtrace_seats) in
    subst P c.self.view_is (
      record { shared = refl; number = refl; limit = refl },
      lanes_set i.backtraces.items c.args.number place c.dump_once.new.self lane,
    )
