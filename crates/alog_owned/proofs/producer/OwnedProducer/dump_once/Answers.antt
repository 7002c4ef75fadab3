use Rattle.std.proofs.Common.{ap, subst, ◌∙◌, ◌≡◌, Some, to_z-of_z}
use Rattle.alog_hosted.specs.Lent.{HostedView}
use Rattle.alog_owned.specs.Owned.{OwnedProducerView}
use Rattle.alog_policy.specs.Progress.{without_waiting}
use Rattle.alog_policy.specs.SwapPort.{SwapDid}
use Rattle.alog_pool.specs.Producer.{Lent}
use Rattle.alog_registry.specs.Backtrace.{Room}
use Rattle.alog_registry.specs.Dumping.{PostsEach, posted_of}
use Rattle.alog_registry.specs.LaneKeeper.{DumpsByTurn}
use Rattle.alog_registry.specs.Listed.{spec_at}
use Rattle.alog_registry.specs.declared.logger.Spec.{Spec}
use Rattle.alog_owned.proofs.producer.OwnedProducer.dump_once.Goals as goal

pub returns-in-Ok-clause-dumped : goal.returns-in-Ok-clause-dumped
returns-in-Ok-clause-dumped g c =
    let dumped = simp (to_z-of_z, c.ranges.time) at c.in-Ok.ensures.dumped in
    subst (λ (v : OwnedProducerView g.row.S.Denot). (s : Spec) → spec_at v.hosted.shared.loggers c.args.number ≡ Some s
    → Lent v.producer c.dump_once.new.self c.args.number (λ p k q l. (d : Room) × DumpsByTurn k d l
    × PostsEach SwapDid (without_waiting s.policy) (posted_of c.args.number c.args.time v.producer.number d.messages) p c.in-Ok.outcomes.items q))
    c.self.view_is
    (λ s e. dumped s (ap (λ (h : HostedView g.row.S.Denot). spec_at h.shared.loggers c.args.number) (ap (λ x. x.hosted) c.deref.ensures) ∙ e))
