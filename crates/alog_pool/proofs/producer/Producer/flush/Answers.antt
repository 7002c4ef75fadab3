use Rattle.std.proofs.Common.{◌≡◌, ◌<◌, Some, List, length, refl, sym, ap, subst, ◌∙◌}
use Rattle.std.specs.Arc.{arc_value}
use Rattle.alog_msg.specs.declared.item.Item.TheVariants.{Flush}
use Rattle.alog_policy.specs.SwapPort.{SwapDid}
use Rattle.alog_pool.specs.Producer.{ProducerView, IsPortOf}
use Rattle.alog_pool.specs.declared.shared.Shared.{Shared}
use Rattle.alog_registry.proofs.SharedListing.{spec_there}
use Rattle.alog_pool.proofs.SharedProducing.{Queueing, posts_port, still_blocks, still_producer, port_after}
use Rattle.alog_registry.specs.ItemOutlet.{PostsItemNow}
use Rattle.alog_registry.specs.Listed.{spec_at}
use Rattle.alog_registry.specs.declared.logger.Logger.{Logger}
use Rattle.alog_registry.specs.declared.logger.Spec.{Spec}
use Rattle.alog_pool.proofs.producer.Producer.flush.Goals as goal

pub shape_of-self-inside : goal.shape_of-self-inside
shape_of-self-inside c =
    let known : c.args.number < length c.deref-shared.result.now.loggers =
    subst (λ (l : List Logger). c.args.number < length l)
    (sym (ap (λ (x : Shared). x.loggers) c.deref-shared.ensures ∙ ap (λ (w : ProducerView). w.shared.loggers) c.self.view_is)) c.requires.known in
    let s = spec_there c.deref-shared.result.now.loggers c.args.number known in
    let alike = posts_port _ _ _ c.flush.new.outlet c.flush.result refl (c.flush.ensures.post s.0 s.1) in
    sym alike.pace

pub shape_of-self-inside-2 : goal.shape_of-self-inside-2
shape_of-self-inside-2 c =
    let known : c.args.number < length c.deref-shared.result.now.loggers =
    subst (λ (l : List Logger). c.args.number < length l)
    (sym (ap (λ (x : Shared). x.loggers) c.deref-shared.ensures ∙ ap (λ (w : ProducerView). w.shared.loggers) c.self.view_is)) c.requires.known in
    let s = spec_there c.deref-shared.result.now.loggers c.args.number known in
    let alike = posts_port _ _ _ c.flush.new.outlet c.flush.result refl (c.flush.ensures.post s.0 s.1) in
    sym alike.spare

pub shape_of-self-inside-3 : goal.shape_of-self-inside-3
shape_of-self-inside-3 c =
    let known : c.args.number < length c.deref-shared.result.now.loggers =
    subst (λ (l : List Logger). c.args.number < length l)
    (sym (ap (λ (x : Shared). x.loggers) c.deref-shared.ensures ∙ ap (λ (w : ProducerView). w.shared.loggers) c.self.view_is)) c.requires.known in
    let s = spec_there c.deref-shared.result.now.loggers c.args.number known in
    let alike = posts_port _ _ _ c.flush.new.outlet c.flush.result refl (c.flush.ensures.post s.0 s.1) in
    sym alike.hand

pub shape_of-self-inside-4 : goal.shape_of-self-inside-4
shape_of-self-inside-4 c =
    let known : c.args.number < length c.deref-shared.result.now.loggers =
    subst (λ (l : List Logger). c.args.number < length l)
    (sym (ap (λ (x : Shared). x.loggers) c.deref-shared.ensures ∙ ap (λ (w : ProducerView). w.shared.loggers) c.self.view_is)) c.requires.known in
    let s = spec_there c.deref-shared.result.now.loggers c.args.number known in
    let alike = posts_port _ _ _ c.flush.new.outlet c.flush.result refl (c.flush.ensures.post s.0 s.1) in
    sym alike.seat

pub shape_of-self-inside-5 : goal.shape_of-self-inside-5
shape_of-self-inside-5 c =
    let known : c.args.number < length c.deref-shared.result.now.loggers =
    subst (λ (l : List Logger). c.args.number < length l)
    (sym (ap (λ (x : Shared). x.loggers) c.deref-shared.ensures ∙ ap (λ (w : ProducerView). w.shared.loggers) c.self.view_is)) c.requires.known in
    let s = spec_there c.deref-shared.result.now.loggers c.args.number known in
    let alike = posts_port _ _ _ c.flush.new.outlet c.flush.result refl (c.flush.ensures.post s.0 s.1) in
    sym alike.pass

pub invariant_of-self : goal.invariant_of-self
invariant_of-self c =
    let i = c.self.inside in
    let known : c.args.number < length c.deref-shared.result.now.loggers =
    subst (λ (l : List Logger). c.args.number < length l)
    (sym (ap (λ (x : Shared). x.loggers) c.deref-shared.ensures ∙ ap (λ (w : ProducerView). w.shared.loggers) c.self.view_is)) c.requires.known in
    let s = spec_there c.deref-shared.result.now.loggers c.args.number known in
    let alike = posts_port _ _ _ c.flush.new.outlet c.flush.result refl (c.flush.ensures.post s.0 s.1) in
    let ring = ap (λ (x : Shared). x.ring) c.deref-shared.ensures in (
      still_producer c.self.invariant.0 ring (ap (λ (x : Shared). x.book) c.deref-shared.ensures) refl refl alike c.flush.ensures.ready,
      still_blocks (arc_value i.shared) _ c.flush.new.outlet ring alike c.flush.ensures.ready,
    )

pub returns-clause-post : goal.returns-clause-post
returns-clause-post c =
    let i = c.self.inside in
    let v : ProducerView = record {
      shared = arc_value i.shared;
      pass = i.pass;
      losses = i.losses;
      backtrace_seats = i.backtrace_seats.items;
      number = i.number;
      limit = i.text_limit;
    } in
    let new : ProducerView = record {
      shared = arc_value i.shared;
      pass = c.flush.new.outlet.pass.now;
      losses = c.flush.new.outlet.seat.now;
      backtrace_seats = i.backtrace_seats.items;
      number = i.number;
      limit = i.text_limit;
    } in
    let P : ProducerView → Type 0 = λ w. (s : Spec) → spec_at w.shared.loggers c.args.number ≡ Some s
    → (p q : Queueing) × IsPortOf w p × IsPortOf new q × PostsItemNow SwapDid s.policy (Flush c.args.number) p q c.flush.result in
    subst P c.self.view_is (λ s e.
    let post = c.flush.ensures.post s (ap (λ (x : Shared). spec_at x.loggers c.args.number) c.deref-shared.ensures ∙ e) in
    let alike = posts_port _ _ _ c.flush.new.outlet c.flush.result refl post in (
      _,
      c.flush.new.outlet,
      record {
        ring = ap (λ (x : Shared). x.ring) c.deref-shared.ensures;
        book = ap (λ (x : Shared). x.book) c.deref-shared.ensures;
        pass = refl;
        losses = refl;
      },
      port_after new _ c.flush.new.outlet (ap (λ (x : Shared). x.ring) c.deref-shared.ensures)
          (ap (λ (x : Shared). x.book) c.deref-shared.ensures) alike refl refl,
      post,
    ))
