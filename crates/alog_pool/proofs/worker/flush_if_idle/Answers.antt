use Rattle.alog_pool.proofs.SharedDeeds.{have_none}
use Rattle.alog_pool.proofs.worker.flush_if_idle.Goals as goal

pub returns-else-is_idle-clause-turns : goal.returns-else-is_idle-clause-turns
returns-else-is_idle-clause-turns g c = have_none 0 c.args.sink_seats.now.items
