use Rattle.std.proofs.Common.{◌≡◌, ◌<◌, Some, length, refl, sym, ap, subst, ◌∙◌, arith}
use Rattle.std.specs.Prelude.{IfOk, slice_get, slice_set}
use Rattle.std.specs.Arc.{arc_value}
use Rattle.std.proofs.lemmas.Int.{to_z-of_z}
use Rattle.std.proofs.lemmas.Option.{slice_get_read}
use Rattle.alog_policy.specs.SwapPort.{SwapDid}
use Rattle.alog_policy.specs.Progress.{without_waiting}
use Rattle.alog_pool.specs.Producer.{ProducerView, Lent}
use Rattle.alog_pool.specs.declared.shared.Shared.{Shared}
use Rattle.alog_pool.proofs.SharedProducing.{lent_dump, port_after}
use Rattle.alog_registry.specs.Backtrace.{Room}
use Rattle.alog_registry.specs.Dumping.{PostsEach, posted_of}
use Rattle.alog_registry.specs.LaneKeeper.{DumpsByTurn}
use Rattle.alog_registry.specs.Listed.{spec_at}
use Rattle.alog_registry.specs.declared.logger.Spec.{Spec}
use Rattle.alog_pool.proofs.producer.Producer.dump_backtrace.Goals as goal

pub returns-clause-dumped : goal.returns-clause-dumped
returns-clause-dumped g c =
    let i = c.self.inside in
    let v : ProducerView = record {
      shared = arc_value i.shared;
      pass = i.pass;
      losses = i.losses;
      backtrace_seats = i.backtrace_seats.items;
      number = i.number;
      limit = i.text_limit;
    } in
    let known : c.args.number < length v.shared.loggers =
    subst (λ (w : ProducerView). c.args.number < length w.shared.loggers) (sym c.self.view_is) c.requires.known in
    let low : c.args.number < length i.backtrace_seats.items = omega (arith, known, c.self.invariant.0.each) in
    let place = c.index_mut-backtrace_seat.result.now in
    let found : slice_get i.backtrace_seats.items c.args.number ≡ Some place =
    slice_get_read i.backtrace_seats.items (length i.backtrace_seats.items) c.args.number place refl low c.index_mut-backtrace_seat.ensures.value in
    let dumped = simp (to_z-of_z, c.ranges.time) at c.dump.ensures.dumped in
    let new : ProducerView = record {
      shared = arc_value i.shared;
      pass = c.dump.new.port.pass.now;
      losses = c.dump.new.port.seat.now;
      backtrace_seats = slice_set i.backtrace_seats.items c.args.number c.dump.new.self;
      number = i.number;
      limit = i.text_limit;
    } in
    let P : ProducerView → Type 0 = λ w. (s : Spec) → spec_at w.shared.loggers c.args.number ≡ Some s
    → IfOk c.dump.result (λ x. Lent w new c.args.number (λ p k q l. (d : Room) × DumpsByTurn k d l
    × PostsEach SwapDid (without_waiting s.policy) (posted_of c.args.number c.args.time w.number d.messages) p x.items q)) in
    subst P c.self.view_is (λ s e.
    lent_dump (λ x. x.items) (without_waiting s.policy) c.args.number c.args.time i.number {old = v} c.args.number c.dump.new.self c.dump.result
    (record {
      ring = ap (λ (x : Shared). x.ring) c.deref-shared.ensures;
      book = ap (λ (x : Shared). x.book) c.deref-shared.ensures;
      pass = refl;
      losses = refl;
    })
    (port_after new _ c.dump.new.port (ap (λ (x : Shared). x.ring) c.deref-shared.ensures) (ap (λ (x : Shared). x.book) c.deref-shared.ensures)
    c.dump.ensures.port.1 refl refl)
    found refl (dumped s (ap (λ (x : Shared). spec_at x.loggers c.args.number) c.deref-shared.ensures ∙ e)))
