use Rattle.std.proofs.Common.{sym, subst, ◌∙◌}
use Rattle.alog_system.specs.Outputs.{IsShort}
use Rattle.alog_system.specs.System.{SystemView}
use Rattle.alog_system.specs.Within.{DeskHas}
use Rattle.alog_system.proofs.Desks.{post_began_has}
use Rattle.alog_system.proofs.Parts.{desk_within}
use Rattle.alog_system.proofs.system.System.post.Goals as goal

pub invariant_of-self : goal.invariant_of-self
invariant_of-self g c =
    let i = c.self.inside in
    let v : SystemView g.row.S.Denot = record { desk = i.desk; duties = i.duties.items; roster = i.roster; outputs = i.outputs } in
    let owed = sym (c.self.view_is ∙ c.owe.ensures) in
    let short = subst (λ (s : SystemView g.row.S.Denot). IsShort s.outputs.text_limit c.args.item) owed c.requires.short in
    let has = post_began_has (IsShort v.outputs.text_limit) i.desk c.args.actor c.args.policy c.args.item short c.self.invariant.desk in
    desk_within v c.self.invariant c.begin_post.new.self (subst (DeskHas (IsShort v.outputs.text_limit)) (sym c.in-Ok.ensures.began) has)
