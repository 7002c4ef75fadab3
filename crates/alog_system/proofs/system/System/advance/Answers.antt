use Rattle.std.proofs.Common.{sym, ◌∙◌}
use Rattle.alog_system.specs.declared.duty.Duty.TheVariants.{Posts, Works}
use Rattle.alog_system.proofs.Steps.{Moved, works_round, same_round, next_round, going_round}
use Rattle.alog_system.proofs.system.System.advance.Goals as goal
use Rattle.alog_system.proofs.system.System.advance.Goals.{then-is_some, else-is_some}

pub returns-in-Works : goal.returns-in-Works
returns-in-Works g c =
    let moved : Moved c.args.self.now c.step_desk-stepped.new.self c.take_duty.new.self c.args.actor c.step_desk-stepped.result Works = record {
      told = c.step_desk-stepped.ensures.told;
      moved = c.step_desk-stepped.ensures.stepped;
      was = c.in-Works.ensures.duty;
      free = c.take_duty.ensures.after;
    } in
    works_round moved c.work_on-told.ensures.told c.work_on-told.ensures.duty c.owe.ensures

pub returns-after-is_some : goal.returns-after-is_some
returns-after-is_some g c =
    let moved : Moved c.args.self.now c.step_desk-stepped.new.self c.take_duty.new.self c.args.actor c.step_desk-stepped.result
    (Posts c.in-Posts.policy c.in-Posts.rest) = record {
      told = c.step_desk-stepped.ensures.told;
      moved = c.step_desk-stepped.ensures.stepped;
      was = c.in-Posts.ensures.duty;
      free = c.take_duty.ensures.after;
    } in
    elim c.if-is_some.branch [
      | then-is_some w ↦ next_round moved (sym c.is_some.ensures ∙ w.if-is_some.true) (w.self-is ∙ w.post_next.ensures)
      | else-is_some w ↦ going_round moved (sym c.is_some.ensures ∙ w.if-is_some.false) (w.self-is ∙ w.owe-else-is_some.ensures)
    ]

pub returns-in_default : goal.returns-in_default
returns-in_default g c =
    let duty = c.take_duty.result in
    let moved : Moved c.args.self.now c.step_desk-stepped.new.self c.take_duty.new.self c.args.actor c.step_desk-stepped.result duty = record {
      told = c.step_desk-stepped.ensures.told;
      moved = c.step_desk-stepped.ensures.stepped;
      was = c.take_duty.ensures.duty;
      free = c.take_duty.ensures.after;
    } in
    same_round moved c.in_default.not-Works c.in_default.not-Posts c.owe-in_default.ensures
