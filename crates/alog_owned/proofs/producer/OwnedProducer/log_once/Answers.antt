use Rattle.std.proofs.Common.{ap, subst, ◌∙◌, ◌≡◌, Some, to_z-of_z}
use Rattle.alog_hosted.specs.Lent.{HostedView}
use Rattle.alog_hosted.specs.Once.{LogsOnce}
use Rattle.alog_owned.specs.Owned.{OwnedProducerView}
use Rattle.alog_pool.specs.Producer.{Lent}
use Rattle.alog_registry.specs.Given.{message_with}
use Rattle.alog_registry.specs.Listed.{spec_at}
use Rattle.alog_registry.specs.declared.logger.Spec.{Spec}
use Rattle.alog_owned.proofs.producer.OwnedProducer.log_once.Goals as goal

pub returns-in-Ok-clause-logs : goal.returns-in-Ok-clause-logs
returns-in-Ok-clause-logs g c =
    let logs = simp (to_z-of_z, c.ranges.time) at c.in-Ok.ensures.logs in
    subst (λ (v : OwnedProducerView g.row.S.Denot). (s : Spec) → spec_at v.hosted.shared.loggers c.args.number ≡ Some s
    → Lent v.producer c.log_once.new.self c.args.number (λ p k q l. LogsOnce s
    (message_with c.args.number c.args.level c.args.time v.producer.number c.args.text.now c.args.source) p k c.in-Ok.once q l))
    c.self.view_is
    (λ s e. logs s (ap (λ (h : HostedView g.row.S.Denot). spec_at h.shared.loggers c.args.number) (ap (λ x. x.hosted) c.deref.ensures) ∙ e))
