use Rattle.std.proofs.Common.{subst}
use Rattle.alog_registry.specs.Given.{message_of}
use Rattle.alog_registry.specs.Logging.{IsMade}
use Rattle.alog_registry.proofs.Posting.{brought_by}
use Rattle.alog_registry.proofs.logging.bring_now.Goals as goal

pub returns-in-Some-clause-brought : goal.returns-in-Some-clause-brought
returns-in-Some-clause-brought g c =
    let o = g.O.ItemOutlet in
    let a = c.args in
    let m = message_of a.given in
    brought_by o.did g.met.O.ItemOutlet.together o.is_fit o.shows a.kept a.own m a.outlet.now
    (subst (λ h. IsMade o.did o.is_fit o.shows a.own m a.outlet.now h c.admit.new.outlet) c.in-Some.is c.in_ok-admit.ensures.made)
    c.post_now-outcome.ensures.post
