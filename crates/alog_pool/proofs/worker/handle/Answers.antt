use Rattle.std.proofs.Common.{sym, subst}
use Rattle.alog_msg.specs.declared.item.Item.{Item}
use Rattle.alog_pool.specs.Deeds.{HaveMade, dues_of}
use Rattle.alog_pool.proofs.SharedDeeds.{have_none}
use Rattle.alog_pool.proofs.worker.handle.Goals as goal

pub returns-in-Stop-clause-turns : goal.returns-in-Stop-clause-turns
returns-in-Stop-clause-turns g c =
    let bs = c.args.sink_seats.now.items in
    subst (λ (x : Item). HaveMade 0 bs bs (dues_of c.args.loggers.now c.args.ticket x)) (sym c.in-Stop.is) (have_none 0 bs)
