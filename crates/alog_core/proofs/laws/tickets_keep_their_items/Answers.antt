use Rattle.alog_core.proofs.SharedItems.{tickets_keep_their_items}
use Rattle.alog_core.proofs.laws.tickets_keep_their_items.Goals as goal

pub returns : goal.returns
returns g c = tickets_keep_their_items g.row.T.Denot g.row.N.Denot
