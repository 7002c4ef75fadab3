use Rattle.std.proofs.Common.{ℕ, subst}
use Rattle.alog_core.specs.World.{is_size}
use Rattle.alog_ring.specs.Known.{Known}
use Rattle.alog_ring.specs.Kinds.{no_note}
use Rattle.alog_ring.specs.Calls.{Pushed}
use Rattle.alog_ring.specs.Refused.{PushRefused}
use Rattle.alog_ring.proofs.SharedAlone.{below_last, refused_alone, pushed_alone}
use Rattle.test_queue.proofs.ring_tests.one_value_left.Goals as goal

pub unreachable-requires-in-Err : goal.unreachable-requires-in-Err
unreachable-requires-in-Err c =
    let made = c.in_ok-ring.ensures
    in let below =
    below_last (is_size c.args.places) c.args.first (λ h. let wrong = made.bad_size.1 h in cc)
    (λ h. let wrong = made.bad_first.1 h in cc)
    in let new = c.push_once-pushed.new.pass.known
    in let refused =
    subst (λ (k : Known ℕ no_note). PushRefused k new c.args.value c.in-Err.field-0) made.first c.in-Err.ensures.refused
    in refused_alone c.args.places c.args.first new c.args.value c.in-Err.field-0 below refused
    c.in-Ok.ensures.left.whole

pub returns : goal.returns
returns c =
    let new = c.push_once-pushed.new.pass.known
    in let t = c.in-Ok-pushed.field-0
    in let pushed =
    subst (λ (k : Known ℕ no_note). Pushed k new t c.args.value) c.in_ok-ring.ensures.first c.in-Ok-pushed.ensures.pushed
    in pushed_alone c.args.places c.args.first t new c.args.value c.in-Ok.left.items pushed c.in-Ok.ensures.left
