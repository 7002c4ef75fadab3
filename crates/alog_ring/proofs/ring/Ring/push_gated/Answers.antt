use Rattle.std.proofs.Common.{refl, subst, ◌∙◌}
use Rattle.alog_ring.specs.Refused.{PushRefused}
use Rattle.alog_ring.specs.Waits.{BusyPushes}
use Rattle.alog_ring.specs.declared.push.PushError.{PushError}
use Rattle.alog_ring.proofs.Waiting.{busy_push}
use Rattle.alog_ring.proofs.ring.Ring.push_gated.Goals as goal

pub loop-init : goal.loop-init
loop-init g c = (c.requires.ring, refl, BusyPushes.none)

pub loop-preserved : goal.loop-preserved
loop-preserved g c =
    let inv = c.loop.invariant
    in let P : PushError g.row.T.Denot → Type 0 =
    λ e. PushRefused c.loop.pass.known c.push_value.new.pass.known c.loop.value e
    in let refused = subst P c.in-Err-Busy.field-0-is c.in-Err-Busy.ensures.refused
    in let did =
    busy_push c.args.pass.now.known c.loop.pass.known c.push_value.new.pass.known c.loop.value c.in-Err-Busy.back
    c.in-Err-Busy.field-0-1 inv.2 refused
    in (c.push_value.ensures.ring, did.0 ∙ inv.1, did.1)
