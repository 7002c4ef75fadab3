use Rattle.alog_pool.proofs.SharedSums.{members_balance}
use Rattle.alog_pool.proofs.laws.members_balance.Goals as goal

pub returns : goal.returns
returns g c = members_balance g.row.T.Denot g.row.N.Denot
