use Rattle.alog_core.proofs.SharedAccounts.{accounts_balance}
use Rattle.alog_core.proofs.laws.accounts_balance.Goals as goal

pub returns : goal.returns
returns g c = accounts_balance g.row.T.Denot g.row.N.Denot
