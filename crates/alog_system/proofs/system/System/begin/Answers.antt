use Rattle.std.proofs.Common.{[], sym, subst, arith}
use Rattle.std.proofs.lemmas.Result.{on_ok_weaker}
use Rattle.alog_core.specs.Run.{GoesOn}
use Rattle.alog_core.specs.Staged.{IsReached}
use Rattle.alog_system.specs.System.{SystemView}
use Rattle.alog_system.proofs.History.{log_goes}
use Rattle.alog_system.proofs.system.System.begin.Goals as goal

pub returns-in-Log-clause-history : goal.returns-in-Log-clause-history
returns-in-Log-clause-history g c =
    let v = c.args.self.now in
    let reached = subst (λ (s : SystemView g.row.S.Denot). IsReached s.desk.world) c.self.view_is c.is_reached.ensures in
    on_ok_weaker c.begin_log.result
    (λ is. subst (λ (u : SystemView g.row.S.Denot). GoesOn {N = Unit {0}} v.desk.world [] u.desk.world) (sym is)
    (log_goes v c.args.actor _ reached.actors (omega (arith, c.if-actor-ge-ACTORS.false)))) c.begin_log.ensures.begun
