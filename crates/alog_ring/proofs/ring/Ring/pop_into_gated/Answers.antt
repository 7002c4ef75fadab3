use Rattle.std.proofs.Common.{subst}
use Rattle.alog_ring.specs.Refused.{PopRefused}
use Rattle.alog_ring.specs.Waits.{BusyPops}
use Rattle.alog_ring.specs.declared.pop.PopError.{PopError}
use Rattle.alog_ring.proofs.Waiting.{busy_pop}
use Rattle.alog_ring.proofs.ring.Ring.pop_into_gated.Goals as goal

pub loop-init : goal.loop-init
loop-init g c = (c.requires.ring, c.requires.empty, BusyPops.none)

pub loop-preserved : goal.loop-preserved
loop-preserved g c =
    let inv = c.loop.invariant
    in let P : PopError → Type 0 = λ e. PopRefused c.loop.pass.known c.pop_round.new.pass.known e
    in let refused = subst P c.in-Err-Busy.field-0-is c.in-Err-Busy.ensures.refused
    in (
      c.pop_round.ensures.ring,
      c.in-Err-Busy.ensures.none,
      busy_pop c.args.pass.now.known c.loop.pass.known c.pop_round.new.pass.known c.in-Err-Busy.field-0-0 inv.2 refused,
    )
