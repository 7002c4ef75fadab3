use Rattle.std.proofs.Common.{inr, refl}
use Rattle.std.proofs.KnownBytes.{Keeps-refl}
use Rattle.alog_program.proofs.replay_config.replay_config_command.Goals as goal

pub returns-in-Err-clause-replays : goal.returns-in-Err-clause-replays
returns-in-Err-clause-replays g c = inr (c.in-Err.ensures, (refl, Keeps-refl (g.O.Write.contents c.args.output.now)))
