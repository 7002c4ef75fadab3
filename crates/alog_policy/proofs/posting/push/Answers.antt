use Rattle.std.proofs.Common.{subst}
use Rattle.alog_policy.specs.Outlet.{PushRefused}
use Rattle.alog_ring.specs.declared.push.PushError.{PushError}
use Rattle.alog_policy.proofs.Leading.{full_leads, push_busy_leads, spent_leads}
use Rattle.alog_policy.proofs.posting.push.Goals as goal

pub returns-in-Err-Full-clause-refused : goal.returns-in-Err-Full-clause-refused
returns-in-Err-Full-clause-refused g c x =
    let o = g.O.Outlet in
    let P : PushError (Unit {0}) → Type 0 =
    λ e. PushRefused o.did o.is_fit c.args.outlet.now (tt {0}) e c.push_from.new.self in
    let refused = subst P c.in-Err-Full.field-0-is c.in-Err-Full.ensures.refused in
    full_leads o.did o.is_fit x (tt {0}) c.args.progress c.args.outlet.now c.push_from.new.self
    c.requires.kept c.after_full.result c.in-Err-Full.field-0-1 c.requires.side c.after_full.ensures refused.1

pub returns-in-Err-Busy-clause-refused : goal.returns-in-Err-Busy-clause-refused
returns-in-Err-Busy-clause-refused g c x =
    let o = g.O.Outlet in
    let P : PushError (Unit {0}) → Type 0 =
    λ e. PushRefused o.did o.is_fit c.args.outlet.now (tt {0}) e c.push_from.new.self in
    let refused = subst P c.in-Err-Busy.field-0-is c.in-Err-Busy.ensures.refused in
    push_busy_leads o.did o.is_fit x (tt {0}) c.args.progress c.args.outlet.now
    c.push_from.new.self c.requires.kept c.again.result c.in-Err-Busy.field-0-1 c.requires.side c.again.ensures refused.1

pub returns-in-Err-Spent-clause-refused : goal.returns-in-Err-Spent-clause-refused
returns-in-Err-Spent-clause-refused g c x =
    let o = g.O.Outlet in
    let P : PushError (Unit {0}) → Type 0 =
    λ e. PushRefused o.did o.is_fit c.args.outlet.now (tt {0}) e c.push_from.new.self in
    let refused = subst P c.in-Err-Spent.field-0-is c.in-Err-Spent.ensures.refused in
    spent_leads o.did o.is_fit x (tt {0}) c.args.progress c.args.outlet.now c.push_from.new.self
    c.requires.kept c.lost.result c.requires.side c.lost.ensures refused.1
