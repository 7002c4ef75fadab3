use Rattle.std.proofs.Common.{◌≡◌, ◌⊎◌, ◌<◌, Some, length, refl, sym, ap, subst, ◌∙◌, arith}
use Rattle.std.specs.Prelude.{IfOk, slice_get, slice_set}
use Rattle.std.specs.Arc.{arc_value}
use Rattle.std.proofs.lemmas.Int.{to_z-of_z}
use Rattle.std.proofs.lemmas.Option.{slice_get_read}
use Rattle.alog_policy.specs.SwapPort.{SwapDid}
use Rattle.alog_policy.specs.declared.policy.Policy.TheVariants as under
use Rattle.alog_pool.specs.BacktraceSeat.{BacktraceSeatView}
use Rattle.alog_pool.specs.Producer.{ProducerView, Lent}
use Rattle.alog_pool.specs.declared.shared.Shared.{Shared}
use Rattle.alog_pool.proofs.SharedProducing.{lent_log, kept_at, port_after}
use Rattle.alog_registry.specs.Given.{message_with, IsWithin}
use Rattle.alog_registry.specs.LaneKeeper.{KeepsByTurn, NeverPasses}
use Rattle.alog_registry.specs.Listed.{spec_at}
use Rattle.alog_registry.specs.Logging.{IsLoggedOrSpent, Logs, IsUnread}
use Rattle.alog_registry.specs.declared.logger.Spec.{Spec}
use Rattle.alog_pool.proofs.producer.Producer.log.Goals as goal

pub returns-clause-logs : goal.returns-clause-logs
returns-clause-logs g c =
    let i = c.self.inside in
    let v : ProducerView = record {
      shared = arc_value i.shared;
      pass = i.pass;
      losses = i.losses;
      backtrace_seats = i.backtrace_seats.items;
      number = i.number;
      limit = i.text_limit;
    } in
    let known : c.args.number < length v.shared.loggers =
    subst (λ (w : ProducerView). c.args.number < length w.shared.loggers) (sym c.self.view_is) c.requires.known in
    let low : c.args.number < length i.backtrace_seats.items = omega (arith, known, c.self.invariant.0.each) in
    let place = c.index_mut-backtrace_seat.result.now in
    let found : slice_get i.backtrace_seats.items c.args.number ≡ Some place =
    slice_get_read i.backtrace_seats.items (length i.backtrace_seats.items) c.args.number place refl low c.index_mut-backtrace_seat.ensures.value in
    let logs = simp (to_z-of_z, c.ranges.time) at c.log.ensures.logs in
    let new : ProducerView = record {
      shared = arc_value i.shared;
      pass = c.log.new.port.pass.now;
      losses = c.log.new.port.seat.now;
      backtrace_seats = slice_set i.backtrace_seats.items c.args.number c.log.new.self;
      number = i.number;
      limit = i.text_limit;
    } in
    let P : ProducerView → Type 0 = λ w. (s : Spec) → spec_at w.shared.loggers c.args.number ≡ Some s
    → IfOk c.log.result (λ r. Lent w new c.args.number (λ p k q l. Logs SwapDid KeepsByTurn NeverPasses s.policy s
    (message_with c.args.number c.args.level c.args.time w.number c.args.text.now c.args.source) p k r q l)) in
    subst P c.self.view_is (λ s e.
    lent_log NeverPasses s.policy s _ {old = v} c.args.number c.log.new.self c.log.result
    (record {
      ring = ap (λ (x : Shared). x.ring) c.deref-shared.ensures;
      book = ap (λ (x : Shared). x.book) c.deref-shared.ensures;
      pass = refl;
      losses = refl;
    })
    (port_after new _ c.log.new.port (ap (λ (x : Shared). x.ring) c.deref-shared.ensures) (ap (λ (x : Shared). x.book) c.deref-shared.ensures)
    c.log.ensures.port.1 refl refl)
    found refl (logs s (ap (λ (x : Shared). spec_at x.loggers c.args.number) c.deref-shared.ensures ∙ e)))

pub returns-clause-within : goal.returns-clause-within
returns-clause-within g c =
    let i = c.self.inside in
    let v : ProducerView = record {
      shared = arc_value i.shared;
      pass = i.pass;
      losses = i.losses;
      backtrace_seats = i.backtrace_seats.items;
      number = i.number;
      limit = i.text_limit;
    } in
    let known : c.args.number < length v.shared.loggers =
    subst (λ (w : ProducerView). c.args.number < length w.shared.loggers) (sym c.self.view_is) c.requires.known in
    let low : c.args.number < length i.backtrace_seats.items = omega (arith, known, c.self.invariant.0.each) in
    let place = c.index_mut-backtrace_seat.result.now in
    let limit : place.lane.first.limit ≡ v.limit =
    ap (λ (k : BacktraceSeatView). k.lane.first.limit) c.index_mut-backtrace_seat.ensures.value
    ∙ kept_at i.text_limit i.backtrace_seats.items c.args.number place low c.self.invariant.0.kept in
    let P : ProducerView → Type 0 = λ w. (s : Spec) → spec_at w.shared.loggers c.args.number ≡ Some s
    → IfOk c.log.result (λ r. IsUnread s r ⊎ IsWithin w.limit c.args.text.now c.args.source) in
    subst P c.self.view_is (λ s e.
    subst (λ n. IfOk c.log.result (λ r. IsUnread s r ⊎ IsWithin n c.args.text.now c.args.source)) limit
    (c.log.ensures.within s (ap (λ (x : Shared). spec_at x.loggers c.args.number) c.deref-shared.ensures ∙ e)))

pub returns-clause-blocks : goal.returns-clause-blocks
returns-clause-blocks g c =
    let P : ProducerView → Type 0 = λ w. (s : Spec) → spec_at w.shared.loggers c.args.number ≡ Some s → s.policy ≡ under.Block
    → IfOk c.log.result IsLoggedOrSpent in
    subst P c.self.view_is (λ s e b.
    c.log.ensures.blocks s (ap (λ (x : Shared). spec_at x.loggers c.args.number) c.deref-shared.ensures ∙ e) b)
