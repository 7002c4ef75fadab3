use Rattle.std.proofs.Common.{Some, refl}
use Rattle.alog_policy.proofs.SwapPorts.{swap_overran, swap_pop_refused}
use Rattle.alog_policy.proofs.swap_port.SwapPortOutlet.overrun_once.Goals as goal

pub returns-in-Ok-clause-overran : goal.returns-in-Ok-clause-overran
returns-in-Ok-clause-overran g c =
    swap_overran g.L.Limit.admits c.args.self.now _ c.requires refl refl refl refl refl refl refl c.in-Ok.ensures.ring c.in-Ok.ticket
    (g.W.Shows.shows c.pop_swap_into.new.hand) (Some c.in-Some.spare.now) c.in-Ok.ensures.popped refl (refl, c.in-Ok.ensures.limit)
    c.overran.ensures.seat c.overran.ensures.added

pub returns-in-Err-clause-refused : goal.returns-in-Err-clause-refused
returns-in-Err-clause-refused g c =
    swap_pop_refused g.L.Limit.admits c.args.self.now _ c.requires refl refl refl refl refl refl refl c.in-Err.ensures.ring refl refl
    (refl, c.in-Err.ensures.limit) c.in-Err.error c.in-Err.ensures.refused
