use Rattle.std.proofs.Common.{refl}
use Rattle.alog_policy.proofs.Ports.{push_done, push_refused, push_fits}
use Rattle.alog_policy.proofs.port.PortOutlet.push_from.Goals as goal

pub returns-clause-pushed : goal.returns-clause-pushed
returns-clause-pushed g c =
    push_done c.args.self.now _ c.requires.fit refl refl refl refl c.push_from.ensures.ring refl c.args.hand.now c.push_from.result
    c.push_from.ensures.pushed

pub returns-clause-refused : goal.returns-clause-refused
returns-clause-refused g c =
    push_refused c.args.self.now _ c.requires.fit refl refl refl refl c.push_from.ensures.ring refl (tt {0}) c.push_from.result
    c.push_from.ensures.refused

pub returns-clause-fit : goal.returns-clause-fit
returns-clause-fit g c =
    push_fits c.args.self.now _ c.requires.fit c.args.hand.now c.push_from.result c.requires.there (returns-clause-pushed g c)
