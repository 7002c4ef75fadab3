use Rattle.alog_core.proofs.SharedTickets.{tickets_are_issued_in_order}
use Rattle.alog_core.proofs.laws.tickets_are_issued_in_order.Goals as goal

pub returns : goal.returns
returns g c = tickets_are_issued_in_order g.row.T.Denot g.row.N.Denot
