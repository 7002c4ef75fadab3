use Rattle.std.proofs.Common.{arith, refl, subst}
use Rattle.alog_hosted.proofs.Pushing.{round_posts, round_is_lost, round_full, round_busy}
use Rattle.alog_policy.specs.Outlet.{PushRefused}
use Rattle.alog_policy.specs.SwapPort.{SwapDid}
use Rattle.alog_registry.specs.BlockPort.{BlockPort, IsReadyPort}
use Rattle.alog_registry.specs.Given.{message_of}
use Rattle.alog_ring.specs.declared.push.PushError.{PushError}
use Rattle.alog_hosted.proofs.log_once.bring_once.Goals as goal

pub returns-in-Ok-clause-brought : goal.returns-in-Ok-clause-brought
returns-in-Ok-clause-brought c = (
  (
    refl,
    λ below. omega (arith, below, c.number.ensures, c.number-2.ensures, c.if-number.false),
    round_posts c.in_ok-text.ensures.made c.in_ok-text.ensures.fit.1 c.in-Ok.ticket c.in-Ok.ensures.pushed,
  ),
  tt,
)

pub returns-in-Err-Spent-clause-brought : goal.returns-in-Err-Spent-clause-brought
returns-in-Err-Spent-clause-brought c =
    let a : BlockPort = c.text.new.self in
    let b : BlockPort = c.push_hand.new.port in
    let refused =
    subst (λ (e : PushError (Unit {0})). PushRefused SwapDid IsReadyPort a (tt {0}) e b) c.in-Err-Spent.field-0-is c.in-Err-Spent.ensures.refused in (
      (
        refl,
        λ below. omega (arith, below, c.number.ensures, c.number-2.ensures, c.if-number.false),
        round_is_lost (message_of c.args.given) c.args.port.now a b c.count_discarded.new.self c.in_ok-text.ensures.fit.1
            refused.1.0 c.count_discarded.ensures.counted.0,
      ),
      refl,
    )

pub returns-in-Err-Full-clause-brought : goal.returns-in-Err-Full-clause-brought
returns-in-Err-Full-clause-brought c =
    let a : BlockPort = c.text.new.self in
    let b : BlockPort = c.push_hand.new.port in
    let refused =
    subst (λ (e : PushError (Unit {0})). PushRefused SwapDid IsReadyPort a (tt {0}) e b) c.in-Err-Full.field-0-is c.in-Err-Full.ensures.refused in
    round_full c.in-Err-Full.field-0-1 c.in_ok-text.ensures.fit.1 refused.1.0

pub returns-in-Err-Busy-clause-brought : goal.returns-in-Err-Busy-clause-brought
returns-in-Err-Busy-clause-brought c =
    let a : BlockPort = c.text.new.self in
    let b : BlockPort = c.push_hand.new.port in
    let refused =
    subst (λ (e : PushError (Unit {0})). PushRefused SwapDid IsReadyPort a (tt {0}) e b) c.in-Err-Busy.field-0-is c.in-Err-Busy.ensures.refused in
    round_busy c.in-Err-Busy.field-0-1 c.in_ok-text.ensures.fit.1 refused.1.0
