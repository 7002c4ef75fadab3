use Rattle.alog_core.proofs.SharedTickets.{no_ticket_is_handed_out_twice}
use Rattle.alog_core.proofs.laws.no_ticket_is_handed_out_twice.Goals as goal

pub returns : goal.returns
returns g c = no_ticket_is_handed_out_twice g.row.T.Denot g.row.N.Denot
