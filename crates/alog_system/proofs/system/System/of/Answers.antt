use Rattle.std.proofs.Common.{length, refl, sym, subst, ◌∙◌}
use Rattle.alog_core.specs.declared.TheConstants.{ACTORS}
use Rattle.alog_policy.specs.DeskInside.{desk_in}
use Rattle.alog_system.specs.System.{SystemView}
use Rattle.alog_system.specs.Within.{IsWithin}
use Rattle.alog_system.proofs.Parts.{few_kept, fresh_within, made_fresh}
use Rattle.alog_system.proofs.system.System.of.Goals as goal

pub new-requires : goal.new-requires
new-requires g c = few_kept (length c.args.sinks.items) c.args.loggers c.requires.loggers

pub invariant_of-result-2 : goal.invariant_of-result-2
invariant_of-result-2 g c =
    let v : SystemView g.row.S.Denot = record { desk = c.in_ok-desk.desk; duties = c.in_ok-desk.duties.items; roster = c.in_ok-roster.roster; outputs = c.in_ok-new.field-0 } in
    let is = made_fresh {v = v} {n = ACTORS} c.in_ok-desk.ensures.desk c.in_ok-desk.ensures.duties refl c.in_ok-roster.ensures.made
    c.in_ok-new.ensures in
    let whole : IsWithin v = subst IsWithin (sym is) (fresh_within c.args.places c.args.text_limit c.args.loggers c.args.sinks.items c.requires.loggers) in
    subst (λ d. IsWithin (let r : SystemView g.row.S.Denot = record { desk = d; duties = v.duties; roster = v.roster; outputs = v.outputs } in r)) (sym c.desk.view_is) whole

pub returns-clause-made : goal.returns-clause-made
returns-clause-made g c =
    let v : SystemView g.row.S.Denot = record { desk = desk_in c.desk.inside; duties = c.in_ok-desk.duties.items; roster = c.in_ok-roster.roster; outputs = c.in_ok-new.field-0 } in
    made_fresh {v = v} {n = ACTORS} (c.desk.view_is ∙ c.in_ok-desk.ensures.desk) c.in_ok-desk.ensures.duties refl
    c.in_ok-roster.ensures.made c.in_ok-new.ensures
