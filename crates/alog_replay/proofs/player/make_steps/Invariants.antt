use Rattle.std.proofs.Common.{◌-◌, string_bytes}
use Rattle.alog_replay.specs.Scene.{Makes, refused}
use Rattle.alog_replay.proofs.Stepping.{HasMade}
use Rattle.alog_replay.proofs.player.make_steps.Given as goal

abbrev pub invariant-loop : goal.invariant-loop
invariant-loop g l =
    HasMade (Makes g.S.Playable.scene refused l.count l.actor l.fn.stage)
    (Makes g.S.Playable.scene refused (l.count - l.counter) l.actor l.stage) (string_bytes l.fn.out) (string_bytes l.out)
