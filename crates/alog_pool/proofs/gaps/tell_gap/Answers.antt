use Rattle.std.proofs.Common.{sym, subst}
use Rattle.std.specs.Prelude.{Option}
use Rattle.alog_pool.specs.Deeds.{HaveMade, all_dues}
use Rattle.alog_pool.specs.Gaps.{gap_at, next_of}
use Rattle.alog_pool.specs.declared.gaps.Gaps.{Gaps}
use Rattle.alog_pool.proofs.SharedDeeds.{have_none}
use Rattle.alog_pool.proofs.gaps.tell_gap.Goals as goal

pub returns-in-None-clause-turns : goal.returns-in-None-clause-turns
returns-in-None-clause-turns g c =
    let bs = c.args.sink_seats.now.items in
    subst (λ (o : Option Gaps). HaveMade 0 bs bs (all_dues c.args.loggers.now (gap_at (next_of o) c.args.ticket c.args.item.now)))
    (sym c.in-None.is) (have_none 0 bs)
