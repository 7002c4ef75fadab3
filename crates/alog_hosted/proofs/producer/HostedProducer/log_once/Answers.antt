use Rattle.std.proofs.Common.{◌≡◌, ◌⊎◌, ◌<◌, Some, length, refl, sym, ap, subst, ◌∙◌, arith}
use Rattle.std.specs.Prelude.{IfOk, slice_get, slice_set}
use Rattle.std.proofs.lemmas.Int.{to_z-of_z}
use Rattle.std.proofs.lemmas.Option.{slice_get_read}
use Rattle.alog_hosted.proofs.Onces.{lanes_set, lent_once}
use Rattle.alog_hosted.specs.Lent.{HostedView}
use Rattle.alog_hosted.specs.Once.{IsLoggedUnread, LogsOnce}
use Rattle.alog_pool.proofs.SharedProducing.{kept_at, port_after}
use Rattle.alog_pool.specs.BacktraceSeat.{BacktraceSeatView}
use Rattle.alog_pool.specs.Pool.{backtrace_seat_lanes}
use Rattle.alog_pool.specs.Producer.{ProducerView, Lent, IsSame}
use Rattle.alog_pool.specs.declared.shared.Shared.{Shared}
use Rattle.alog_registry.specs.Given.{message_with, IsWithin}
use Rattle.alog_registry.specs.Listed.{spec_at}
use Rattle.alog_registry.specs.declared.logger.Spec.{Spec}
use Rattle.alog_hosted.proofs.producer.HostedProducer.log_once.Goals as goal

pub returns-clause-logs : goal.returns-clause-logs
returns-clause-logs g c =
    let i = c.self.inside in
    let v : ProducerView = record {
      shared = i.shared.value;
      pass = i.pass;
      losses = i.losses;
      backtrace_seats = i.backtraces.items;
      number = i.number;
      limit = i.text_limit;
    } in
    let new : ProducerView = record {
      shared = i.shared.value;
      pass = c.log_once.new.port.pass.now;
      losses = c.log_once.new.port.seat.now;
      backtrace_seats = slice_set i.backtraces.items c.args.number c.log_once.new.self;
      number = i.number;
      limit = i.text_limit;
    } in
    let same : c.hosted.inside.shared ≡ v.shared =
    ap (λ (h : HostedView g.row.S.Denot). h.shared) c.hosted.view_is ∙ sym c.requires.of.shared
    ∙ sym (ap (λ (w : ProducerView). w.shared) c.self.view_is) in
    let known : c.args.number < length c.hosted.inside.shared.loggers =
    subst (λ (h : HostedView g.row.S.Denot). c.args.number < length h.shared.loggers) (sym c.hosted.view_is) c.requires.known in
    let known : c.args.number < length v.shared.loggers = subst (λ (x : Shared). c.args.number < length x.loggers) same known in
    let low : c.args.number < length i.backtraces.items = omega (arith, known, c.self.invariant.0.each) in
    let place = c.index_mut.result.now in
    let found : slice_get i.backtraces.items c.args.number ≡ Some place =
    slice_get_read i.backtraces.items (length i.backtraces.items) c.args.number place refl low c.index_mut.ensures.value in
    let logs = simp (to_z-of_z, c.ranges.time) at c.log_once.ensures.logs in
    let P : ProducerView → Type 0 = λ w. (s : Spec) → spec_at c.hosted.inside.shared.loggers c.args.number ≡ Some s
    → IfOk c.log_once.result (λ r. Lent w new c.args.number (λ p k q l. LogsOnce s
    (message_with c.args.number c.args.level c.args.time w.number c.args.text.now c.args.source) p k r q l)) in
    λ s e. subst P c.self.view_is (λ s e.
    lent_once s _ {old = v} c.args.number c.log_once.new.self c.log_once.result
    (record {
      ring = ap (λ (x : Shared). x.ring) same;
      book = ap (λ (x : Shared). x.book) same;
      pass = refl;
      losses = refl;
    })
    (port_after new _ c.log_once.new.port (ap (λ (x : Shared). x.ring) same) (ap (λ (x : Shared). x.book) same) c.log_once.ensures.port.1 refl
    refl)
    found refl (logs s e)) s (ap (λ (h : HostedView g.row.S.Denot). spec_at h.shared.loggers c.args.number) c.hosted.view_is ∙ e)

pub returns-clause-within : goal.returns-clause-within
returns-clause-within g c =
    let i = c.self.inside in
    let v : ProducerView = record {
      shared = i.shared.value;
      pass = i.pass;
      losses = i.losses;
      backtrace_seats = i.backtraces.items;
      number = i.number;
      limit = i.text_limit;
    } in
    let same : c.hosted.inside.shared ≡ v.shared =
    ap (λ (h : HostedView g.row.S.Denot). h.shared) c.hosted.view_is ∙ sym c.requires.of.shared
    ∙ sym (ap (λ (w : ProducerView). w.shared) c.self.view_is) in
    let known : c.args.number < length c.hosted.inside.shared.loggers =
    subst (λ (h : HostedView g.row.S.Denot). c.args.number < length h.shared.loggers) (sym c.hosted.view_is) c.requires.known in
    let known : c.args.number < length v.shared.loggers = subst (λ (x : Shared). c.args.number < length x.loggers) same known in
    let low : c.args.number < length i.backtraces.items = omega (arith, known, c.self.invariant.0.each) in
    let place = c.index_mut.result.now in
    let limit : place.lane.first.limit ≡ v.limit =
    ap (λ (k : BacktraceSeatView). k.lane.first.limit) c.index_mut.ensures.value
    ∙ kept_at i.text_limit i.backtraces.items c.args.number place low c.self.invariant.0.kept in
    let P : ProducerView → Type 0 = λ w. (s : Spec) → spec_at c.hosted.inside.shared.loggers c.args.number ≡ Some s
    → IfOk c.log_once.result (λ r. IsLoggedUnread s r ⊎ IsWithin w.limit c.args.text.now c.args.source) in
    λ s e. subst P c.self.view_is (λ s e.
    subst (λ n. IfOk c.log_once.result (λ r. IsLoggedUnread s r ⊎ IsWithin n c.args.text.now c.args.source)) limit
    (c.log_once.ensures.within s e)) s (ap (λ (h : HostedView g.row.S.Denot). spec_at h.shared.loggers c.args.number) c.hosted.view_is ∙ e)

pub returns-clause-same : goal.returns-clause-same
returns-clause-same g c =
    let i = c.self.inside in
    let v : ProducerView = record {
      shared = i.shared.value;
      pass = i.pass;
      losses = i.losses;
      backtrace_seats = i.backtraces.items;
      number = i.number;
      limit = i.text_limit;
    } in
    let new : ProducerView = record {
      shared = i.shared.value;
      pass = c.log_once.new.port.pass.now;
      losses = c.log_once.new.port.seat.now;
      backtrace_seats = slice_set i.backtraces.items c.args.number c.log_once.new.self;
      number = i.number;
      limit = i.text_limit;
    } in
    let place = c.index_mut.result.now in
    let lane = c.log_once.ensures.lane ∙ ap (λ (k : BacktraceSeatView). k.lane) c.index_mut.ensures.value in
    let P : ProducerView → Type 0 =
    λ w. IsSame w new × (backtrace_seat_lanes new.backtrace_seats ≡ backtrace_seat_lanes w.backtrace_seats) in
    subst P c.self.view_is (
      record { shared = refl; number = refl; limit = refl },
      lanes_set i.backtraces.items c.args.number place c.log_once.new.self lane,
    )
