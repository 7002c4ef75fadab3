use Rattle.std.proofs.Common.{◌≡◌, ◌-◌, ◌<◌, Err, ap, arith, string_bytes}
use Rattle.std.proofs.lemmas.Result.{err_from_is_err_and}
use Rattle.alog_replay.specs.Scene.{refused}
use Rattle.alog_replay.specs.declared.error.LineError.TheVariants.{Refused}
use Rattle.alog_replay.proofs.Stepping.{StepMade, next_made, all_made, ended_before, made_till_refused, true_or_not}
use Rattle.alog_replay.proofs.player.make_steps.Goals as goal

pub loop-preserved : goal.loop-preserved
loop-preserved g c =
    let scene = g.S.Playable.scene in
    let a = c.args.actor in
    let one : StepMade scene a c.loop.stage c.step.new.self (string_bytes c.loop.out) (string_bytes c.step.new.out) = record {
      called = true_or_not (scene.is_free c.loop.stage a) (λ e. let bad = c.in_ok-step.ensures.refused.1 e in absurd (cc));
      step = c.in_ok-step.ensures.done;
    } in
    next_made scene refused c.args.count c.loop.counter c.loop-test.true one c.loop.invariant

pub returns-in_err-step-clause-refused : goal.returns-in_err-step-clause-refused
returns-in_err-step-clause-refused g c h =
    let scene = g.S.Playable.scene in
    let left = c.args.count - c.loop.counter in
    let p = err_from_is_err_and c.from_residual.result c.from_residual.ensures.1 in
    let e : c.in_err-step.field-0.0 ≡ Refused = cc (p.1, p.2, h) in
    let free = c.in_err-step.ensures.refused.0 (ap Err e) in
    let some : 0 < left = omega (arith, c.loop-test.true) in
    made_till_refused c.loop.invariant (ended_before scene refused left c.args.actor c.loop.stage some free)
    (c.in_err-step.ensures.same (ap Err e))

pub returns-clause-done : goal.returns-clause-done
returns-clause-done g c =
    all_made g.S.Playable.scene refused c.args.count c.loop.counter c.args.actor c.loop.stage c.loop-test.false c.loop.invariant
