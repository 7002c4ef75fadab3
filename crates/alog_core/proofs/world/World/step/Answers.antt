use Rattle.alog_core.proofs.world.World.step.Goals as goal

pub returns-in-Err-InCall-clause-history : goal.returns-in-Err-InCall-clause-history
returns-in-Err-InCall-clause-history g c = c.advance.ensures.history
