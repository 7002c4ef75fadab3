use Rattle.std.proofs.Common.{refl}
use Rattle.alog_policy.proofs.Ports.{overran, pop_refused}
use Rattle.alog_policy.proofs.port.PortOutlet.overrun_once.Goals as goal

pub returns-in-Err-clause-refused : goal.returns-in-Err-clause-refused
returns-in-Err-clause-refused g c =
    pop_refused c.args.self.now _ c.requires refl refl refl refl c.in-Err.ensures.ring refl c.in-Err.error c.in-Err.ensures.refused

pub returns-clause-overran : goal.returns-clause-overran
returns-clause-overran g c =
    overran c.args.self.now _ c.requires refl refl refl refl c.in-Ok.ensures.ring c.in-Ok.popped.0 c.in-Ok.popped.1 c.in-Ok.ensures.popped
    c.overran.ensures.seat c.overran.ensures.added
