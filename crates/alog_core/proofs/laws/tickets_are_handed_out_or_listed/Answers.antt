use Rattle.alog_core.proofs.SharedTickets.{tickets_are_handed_out_or_listed}
use Rattle.alog_core.proofs.laws.tickets_are_handed_out_or_listed.Goals as goal

pub returns : goal.returns
returns g c = tickets_are_handed_out_or_listed g.row.T.Denot g.row.N.Denot
