use Rattle.std.proofs.Common.{subst}
use Rattle.alog_policy.specs.Outlet.{PopRefused}
use Rattle.alog_ring.specs.declared.pop.PopError.{PopError}
use Rattle.alog_policy.proofs.Leading.{overran_leads, pop_busy_leads, empty_leads, idle_leads}
use Rattle.alog_policy.proofs.posting.make_room.Goals as goal

pub returns-in-Ok : goal.returns-in-Ok
returns-in-Ok g c x =
    let o = g.O.Outlet in
    overran_leads o.did o.is_fit x (tt {0}) c.args.progress c.args.outlet.now c.overrun_once.new.self c.requires.kept
    c.after_take.result c.in-Ok.field-0 c.requires.side c.after_take.ensures c.in-Ok.ensures.overran

pub returns-in-Err-Busy : goal.returns-in-Err-Busy
returns-in-Err-Busy g c x =
    let o = g.O.Outlet in
    let P : PopError → Type 0 = λ e. PopRefused o.did o.is_fit c.args.outlet.now e c.overrun_once.new.self in
    let refused = subst P c.in-Err-Busy.field-0-is c.in-Err-Busy.ensures.refused in
    pop_busy_leads o.did o.is_fit x (tt {0}) c.args.progress c.args.outlet.now c.overrun_once.new.self c.requires.kept
    c.again.result c.in-Err-Busy.field-0-0 c.requires.side c.again.ensures refused

pub returns-in-Err-Empty : goal.returns-in-Err-Empty
returns-in-Err-Empty g c x =
    let o = g.O.Outlet in
    let P : PopError → Type 0 = λ e. PopRefused o.did o.is_fit c.args.outlet.now e c.overrun_once.new.self in
    let refused = subst P c.in-Err-Empty.field-0-is c.in-Err-Empty.ensures.refused in
    empty_leads o.did o.is_fit x (tt {0}) c.args.progress c.args.outlet.now c.overrun_once.new.self c.requires.kept
    c.lost.result c.in-Err-Empty.field-0-0 c.requires.side c.lost.ensures refused

pub returns-in-Err-Idle : goal.returns-in-Err-Idle
returns-in-Err-Idle g c x =
    let o = g.O.Outlet in
    let P : PopError → Type 0 = λ e. PopRefused o.did o.is_fit c.args.outlet.now e c.overrun_once.new.self in
    let refused = subst P c.in-Err-Idle.field-0-is c.in-Err-Idle.ensures.refused in
    idle_leads o.did o.is_fit x (tt {0}) c.args.progress c.args.outlet.now c.overrun_once.new.self c.requires.kept
    c.lost-in-Err-Idle.result c.in-Err-Idle.field-0-0 c.requires.side c.lost-in-Err-Idle.ensures refused
