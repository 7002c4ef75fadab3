use Rattle.alog_core.proofs.SharedGrabs.{an_actors_tickets_rise}
use Rattle.alog_core.proofs.laws.an_actors_tickets_rise.Goals as goal

pub returns : goal.returns
returns g c = an_actors_tickets_rise g.row.T.Denot g.row.N.Denot
