use Rattle.alog_system.proofs.Runs.{system_runs}
use Rattle.alog_system.proofs.laws.runs_of_a_system.Goals as goal

pub returns : goal.returns
returns g c = system_runs g.S.Store.tells g.S.Store.files g.S.Store.failures
