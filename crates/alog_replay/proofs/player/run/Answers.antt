use Rattle.std.proofs.Common.{◌-◌, ◌<◌, sym, ◌∙◌, arith, string_bytes}
use Rattle.alog_replay.specs.Scene.{done}
use Rattle.alog_replay.specs.declared.limits.TheConstants.{STEPS_MAX}
use Rattle.alog_replay.proofs.Stepping.{StepMade, next_made, all_made, ended_before, made_all, ran}
use Rattle.alog_replay.proofs.player.run.Goals as goal

pub loop-preserved : goal.loop-preserved
loop-preserved g c =
    let scene = g.S.Playable.scene in
    let one : StepMade scene c.args.actor c.loop.stage c.step.new.self (string_bytes c.loop.out) (string_bytes c.step.new.out) =
    record { called = sym c.is_free-in-loop.ensures ∙ c.if-is_free-2.false; step = c.in_ok-step.ensures.done } in
    next_made scene done STEPS_MAX c.loop.counter c.loop-test.true one c.loop.invariant

pub returns-after-loop-clause-done : goal.returns-after-loop-clause-done
returns-after-loop-clause-done g c =
    let scene = g.S.Playable.scene in
    let called = sym c.is_free.ensures ∙ c.if-is_free.false in
    ran scene c.args.actor c.args.stage.now c.loop.stage (string_bytes c.args.out.now) (string_bytes c.loop.out) called
    (all_made scene done STEPS_MAX c.loop.counter c.args.actor c.loop.stage c.loop-test.false c.loop.invariant)

pub returns-then-is_free-2-clause-done : goal.returns-then-is_free-2-clause-done
returns-then-is_free-2-clause-done g c =
    let scene = g.S.Playable.scene in
    let left = STEPS_MAX - c.loop.counter in
    let some : 0 < left = omega (arith, c.loop-test.true) in
    let called = sym c.is_free.ensures ∙ c.if-is_free.false in
    let free = sym c.is_free-in-loop.ensures ∙ c.if-is_free-2.true in
    ran scene c.args.actor c.args.stage.now c.loop.stage (string_bytes c.args.out.now) (string_bytes c.loop.out) called
    (made_all c.loop.stage c.loop.invariant (ended_before scene done left c.args.actor c.loop.stage some free))
