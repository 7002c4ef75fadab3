use Rattle.std.proofs.Common.{◌≡◌, true, false, sym, subst, ◌∙◌, arith}
use Rattle.alog_core.specs.Staged.{IsReached}
use Rattle.alog_core.specs.World.{is_idle, round_of}
use Rattle.alog_system.specs.System.{SystemView}
use Rattle.alog_system.proofs.History.{round_goes_on, turn_goes_on}
use Rattle.alog_system.proofs.system.System.step.Goals as goal

pub returns-then-is_idle-clause-history : goal.returns-then-is_idle-clause-history
returns-then-is_idle-clause-history g c =
    let v = c.args.self.now in
    let reached = subst (λ (s : SystemView g.row.S.Denot). IsReached s.desk.world) c.self.view_is c.is_reached.ensures in
    let idle = subst (λ (s : SystemView g.row.S.Denot). is_idle (round_of s.desk.world c.args.actor) ≡ true) c.self.view_is
    (sym c.is_idle.ensures ∙ c.if-is_idle.true) in
    turn_goes_on _ _ _ v c.args.actor c.turn.result c.turn.new.self reached (omega (arith, c.if-actor-ge-ACTORS.false)) idle c.turn.ensures

pub returns-clause-history : goal.returns-clause-history
returns-clause-history g c =
    let v = c.args.self.now in
    let reached = subst (λ (s : SystemView g.row.S.Denot). IsReached s.desk.world) c.self.view_is c.is_reached.ensures in
    let busy = subst (λ (s : SystemView g.row.S.Denot). is_idle (round_of s.desk.world c.args.actor) ≡ false) c.self.view_is
    (sym c.is_idle.ensures ∙ c.if-is_idle.false) in
    round_goes_on v c.args.actor c.advance.result c.advance.new.self reached (omega (arith, c.if-actor-ge-ACTORS.false)) busy c.advance.ensures
