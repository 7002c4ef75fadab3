use Rattle.std.proofs.Common.{◌<◌, length, sym, ap, subst, ◌∙◌, arith}
use Rattle.std.specs.Prelude.{IsSome}
use Rattle.alog_core.specs.World.{is_idle, round_of}
use Rattle.alog_msg.specs.declared.item.Item.{Item}
use Rattle.alog_policy.specs.Desk.{DeskView}
use Rattle.alog_policy.specs.declared.post.Stepped.{Stepped as DeskStepped}
use Rattle.alog_system.specs.Outputs.{IsShort}
use Rattle.alog_system.specs.System.{SystemView}
use Rattle.alog_system.specs.Within.{DeskHas, SaidHasOnly}
use Rattle.alog_system.proofs.Desks.{desk_has, answer_short, ended_idle}
use Rattle.alog_system.proofs.Parts.{desk_within}
use Rattle.alog_system.proofs.system.System.step_desk.Goals as goal

pub invariant_of-self : goal.invariant_of-self
invariant_of-self g c =
    let i = c.self.inside in
    let v : SystemView g.row.S.Denot = record { desk = i.desk; duties = i.duties.items; roster = i.roster; outputs = i.outputs } in
    desk_within v c.self.invariant c.step.new.self
    (subst (DeskHas (IsShort v.outputs.text_limit)) (sym c.in-Ok.ensures.stepped) (desk_has (IsShort v.outputs.text_limit) i.desk c.args.actor c.self.invariant.desk))

pub returns-clause-short : goal.returns-clause-short
returns-clause-short g c =
    let i = c.self.inside in
    let P = IsShort i.outputs.text_limit in
    subst (λ (s : SystemView g.row.S.Denot). SaidHasOnly (IsShort s.outputs.text_limit) c.in-Ok.stepped.said) c.self.view_is
    (subst (λ (t : DeskStepped Item). SaidHasOnly P t.said) (sym c.in-Ok.ensures.told) (answer_short P i.desk c.args.actor c.self.invariant.desk))

pub returns-clause-ended : goal.returns-clause-ended
returns-clause-ended g c = λ some.
    let i = c.self.inside in
    let there : c.args.actor < length i.desk.world.rounds = omega (arith, c.is_reached.ensures.actors, c.requires.actor) in
    ap (λ (d : DeskView Item). is_idle (round_of d.world c.args.actor)) c.in-Ok.ensures.stepped
    ∙ ended_idle i.desk c.args.actor there (subst (λ (t : DeskStepped Item). IsSome t.outcome) c.in-Ok.ensures.told some)
