use Rattle.alog_core.proofs.SharedItems.{takes_follow_their_claims}
use Rattle.alog_core.proofs.laws.takes_follow_their_claims.Goals as goal

pub returns : goal.returns
returns g c = takes_follow_their_claims g.row.T.Denot g.row.N.Denot
