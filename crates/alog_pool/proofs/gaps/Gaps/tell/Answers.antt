use Rattle.std.proofs.Common.{Some, sym, subst}
use Rattle.alog_msg.specs.declared.item.Item.{Item}
use Rattle.alog_pool.specs.Deeds.{HaveMade, all_dues}
use Rattle.alog_pool.specs.Gaps.{gap_at}
use Rattle.alog_pool.proofs.SharedDeeds.{have_none}
use Rattle.alog_pool.proofs.gaps.Gaps.tell.Goals as goal

pub returns-in-Flush-clause-turns : goal.returns-in-Flush-clause-turns
returns-in-Flush-clause-turns g c =
    let bs = c.args.sink_seats.now.items in
    subst (λ (x : Item). HaveMade 0 bs bs (all_dues c.args.loggers.now (gap_at (Some c.args.self.now.next) c.args.ticket x))) (sym c.in-Flush.is)
    (have_none 0 bs)

pub returns-in-Stop-clause-turns : goal.returns-in-Stop-clause-turns
returns-in-Stop-clause-turns g c =
    let bs = c.args.sink_seats.now.items in
    subst (λ (x : Item). HaveMade 0 bs bs (all_dues c.args.loggers.now (gap_at (Some c.args.self.now.next) c.args.ticket x))) (sym c.in-Stop.is)
    (have_none 0 bs)
