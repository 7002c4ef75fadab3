use Rattle.std.proofs.Common.{◌<◌, ◌∙◌, List, length, refl, subst}
use Rattle.alog_registry.specs.declared.logger.Logger.{Logger}
use Rattle.alog_registry.proofs.SharedListing.{named_within}
use Rattle.alog_server.proofs.client.Client.logger.Goals as goal

pub of-requires : goal.of-requires
of-requires g c =
    let found = (c.in-Some.ensures c.in-Some.number).0 refl in
    subst (λ (l : List Logger). c.in-Some.number < length l) (c.loggers.ensures ∙ c.self.invariant.1)
    (named_within c.loggers.result.now c.in-Some.number c.args.name.now found)
