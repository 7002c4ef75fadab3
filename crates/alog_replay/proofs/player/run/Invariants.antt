use Rattle.std.proofs.Common.{◌-◌, string_bytes}
use Rattle.alog_replay.specs.Scene.{Makes, done}
use Rattle.alog_replay.specs.declared.limits.TheConstants.{STEPS_MAX}
use Rattle.alog_replay.proofs.Stepping.{HasMade}
use Rattle.alog_replay.proofs.player.run.Given as goal

abbrev pub invariant-loop : goal.invariant-loop
invariant-loop g l =
    HasMade (Makes g.S.Playable.scene done STEPS_MAX l.actor l.fn.stage)
    (Makes g.S.Playable.scene done (STEPS_MAX - l.counter) l.actor l.stage) (string_bytes l.fn.out) (string_bytes l.out)
