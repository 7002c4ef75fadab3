use Rattle.alog_policy.proofs.SharedRunning.{runs_are_cut}
use Rattle.alog_policy.proofs.laws.runs_are_cut.Goals as goal

pub returns : goal.returns
returns g c = runs_are_cut g.row.T.Denot
