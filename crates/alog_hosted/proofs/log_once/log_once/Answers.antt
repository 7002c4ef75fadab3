use Rattle.std.proofs.Common.{rules, ◌≡◌, subst, ap, ◌∙◌}
use Rattle.alog_hosted.proofs.Pushing.{as_it_is}
use Rattle.alog_policy.specs.SwapPort.{SwapDid}
use Rattle.alog_policy.specs.declared.policy.Policy.{Policy}
use Rattle.alog_policy.specs.declared.policy.Policy.TheVariants.{Block}
use Rattle.alog_registry.specs.Given.{message_of}
use Rattle.alog_registry.specs.LaneKeeper.{KeepsByTurn, Passes}
use Rattle.alog_registry.specs.Logging.{Logs}
use Rattle.alog_registry.specs.declared.logger.Spec.{Spec}
use Rattle.alog_hosted.proofs.log_once.log_once.Goals as goal

pub returns-in-Ok-clause-logs : goal.returns-in-Ok-clause-logs
returns-in-Ok-clause-logs c = λ s e.
    let same : c.in-Some-Some.spec.now ≡ s = cc (e, c.in-Some-Some.ensures.value) in
    subst (λ (p : Policy). Logs SwapDid KeepsByTurn Passes p s (message_of c.args.given) c.args.port.now c.args.keeper.now c.in-Ok.reply
    c.log_ref_now.new.outlet c.log_ref_now.new.keeper)
    (as_it_is s.policy (λ is.
    let block : c.in-Some-Some.spec.now.policy ≡ Block = ap (λ (x : Spec). x.policy) same ∙ is in
    search rules))
    (c.in-Ok.ensures.logs s e)
