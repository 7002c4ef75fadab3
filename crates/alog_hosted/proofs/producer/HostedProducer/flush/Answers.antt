use Rattle.std.proofs.Common.{◌≡◌, ◌<◌, Some, length, refl, sym, ap, subst, ◌∙◌}
use Rattle.alog_hosted.specs.Lent.{HostedView}
use Rattle.alog_msg.specs.declared.item.Item.TheVariants.{Flush}
use Rattle.alog_policy.specs.SwapPort.{SwapDid}
use Rattle.alog_pool.proofs.SharedProducing.{Queueing, posts_port, still_blocks, still_producer, port_after}
use Rattle.alog_pool.specs.Producer.{ProducerView, IsPortOf}
use Rattle.alog_pool.specs.declared.shared.Shared.{Shared}
use Rattle.alog_registry.proofs.SharedListing.{spec_there}
use Rattle.alog_registry.specs.ItemOutlet.{PostsItemNow}
use Rattle.alog_registry.specs.Listed.{spec_at}
use Rattle.alog_registry.specs.declared.logger.Spec.{Spec}
use Rattle.alog_hosted.proofs.producer.HostedProducer.flush.Goals as goal

pub shape_of-self-inside : goal.shape_of-self-inside
shape_of-self-inside g c =
    let known : c.args.number < length c.hosted.inside.shared.loggers =
    subst (λ (h : HostedView g.row.S.Denot). c.args.number < length h.shared.loggers) (sym c.hosted.view_is) c.requires.known in
    let s = spec_there c.hosted.inside.shared.loggers c.args.number known in
    let alike = posts_port _ _ _ c.flush.new.outlet c.flush.result refl (c.flush.ensures.post s.0 s.1) in
    sym alike.pace

pub shape_of-self-inside-2 : goal.shape_of-self-inside-2
shape_of-self-inside-2 g c =
    let known : c.args.number < length c.hosted.inside.shared.loggers =
    subst (λ (h : HostedView g.row.S.Denot). c.args.number < length h.shared.loggers) (sym c.hosted.view_is) c.requires.known in
    let s = spec_there c.hosted.inside.shared.loggers c.args.number known in
    let alike = posts_port _ _ _ c.flush.new.outlet c.flush.result refl (c.flush.ensures.post s.0 s.1) in
    sym alike.spare

pub shape_of-self-inside-3 : goal.shape_of-self-inside-3
shape_of-self-inside-3 g c =
    let known : c.args.number < length c.hosted.inside.shared.loggers =
    subst (λ (h : HostedView g.row.S.Denot). c.args.number < length h.shared.loggers) (sym c.hosted.view_is) c.requires.known in
    let s = spec_there c.hosted.inside.shared.loggers c.args.number known in
    let alike = posts_port _ _ _ c.flush.new.outlet c.flush.result refl (c.flush.ensures.post s.0 s.1) in
    sym alike.hand

pub shape_of-self-inside-4 : goal.shape_of-self-inside-4
shape_of-self-inside-4 g c =
    let known : c.args.number < length c.hosted.inside.shared.loggers =
    subst (λ (h : HostedView g.row.S.Denot). c.args.number < length h.shared.loggers) (sym c.hosted.view_is) c.requires.known in
    let s = spec_there c.hosted.inside.shared.loggers c.args.number known in
    let alike = posts_port _ _ _ c.flush.new.outlet c.flush.result refl (c.flush.ensures.post s.0 s.1) in
    sym alike.seat

pub shape_of-self-inside-5 : goal.shape_of-self-inside-5
shape_of-self-inside-5 g c =
    let known : c.args.number < length c.hosted.inside.shared.loggers =
    subst (λ (h : HostedView g.row.S.Denot). c.args.number < length h.shared.loggers) (sym c.hosted.view_is) c.requires.known in
    let s = spec_there c.hosted.inside.shared.loggers c.args.number known in
    let alike = posts_port _ _ _ c.flush.new.outlet c.flush.result refl (c.flush.ensures.post s.0 s.1) in
    sym alike.pass

pub invariant_of-self : goal.invariant_of-self
invariant_of-self g c =
    let known : c.args.number < length c.hosted.inside.shared.loggers =
    subst (λ (h : HostedView g.row.S.Denot). c.args.number < length h.shared.loggers) (sym c.hosted.view_is) c.requires.known in
    let s = spec_there c.hosted.inside.shared.loggers c.args.number known in
    let alike = posts_port _ _ _ c.flush.new.outlet c.flush.result refl (c.flush.ensures.post s.0 s.1) in
    let same : c.hosted.inside.shared ≡ c.self.inside.shared.value =
    ap (λ (h : HostedView g.row.S.Denot). h.shared) c.hosted.view_is ∙ sym c.requires.of.shared
    ∙ sym (ap (λ (w : ProducerView). w.shared) c.self.view_is) in
    let ring = ap (λ (x : Shared). x.ring) same in (
      still_producer c.self.invariant.0 ring (ap (λ (x : Shared). x.book) same) refl refl alike c.flush.ensures.ready,
      still_blocks c.self.inside.shared.value _ c.flush.new.outlet ring alike c.flush.ensures.ready,
    )

pub returns-clause-post : goal.returns-clause-post
returns-clause-post g c =
    let i = c.self.inside in
    let v : ProducerView = record {
      shared = i.shared.value;
      pass = i.pass;
      losses = i.losses;
      backtrace_seats = i.backtraces.items;
      number = i.number;
      limit = i.text_limit;
    } in
    let new : ProducerView = record {
      shared = i.shared.value;
      pass = c.flush.new.outlet.pass.now;
      losses = c.flush.new.outlet.seat.now;
      backtrace_seats = i.backtraces.items;
      number = i.number;
      limit = i.text_limit;
    } in
    let same : c.hosted.inside.shared ≡ c.self.inside.shared.value =
    ap (λ (h : HostedView g.row.S.Denot). h.shared) c.hosted.view_is ∙ sym c.requires.of.shared
    ∙ sym (ap (λ (w : ProducerView). w.shared) c.self.view_is) in
    let P : ProducerView → Type 0 = λ w. (s : Spec) → spec_at c.hosted.inside.shared.loggers c.args.number ≡ Some s
    → (p q : Queueing) × IsPortOf w p × IsPortOf new q × PostsItemNow SwapDid s.policy (Flush c.args.number) p q c.flush.result in
    λ s e. subst P c.self.view_is (λ s e.
    let post = c.flush.ensures.post s e in
    let alike = posts_port _ _ _ c.flush.new.outlet c.flush.result refl post in (
      _,
      c.flush.new.outlet,
      record {
        ring = ap (λ (x : Shared). x.ring) same;
        book = ap (λ (x : Shared). x.book) same;
        pass = refl;
        losses = refl;
      },
      port_after new _ c.flush.new.outlet (ap (λ (x : Shared). x.ring) same) (ap (λ (x : Shared). x.book) same) alike refl refl,
      post,
    )) s (ap (λ (h : HostedView g.row.S.Denot). spec_at h.shared.loggers c.args.number) c.hosted.view_is ∙ e)
