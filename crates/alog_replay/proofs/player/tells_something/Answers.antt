use Rattle.alog_replay.proofs.Going.{some_script}
use Rattle.alog_replay.proofs.player.tells_something.Goals as goal

pub returns : goal.returns
returns g c = some_script g.S.Playable.scene
