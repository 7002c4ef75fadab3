use Rattle.alog_pool.proofs.SharedWorkers.{workers_write}
use Rattle.alog_pool.proofs.laws.workers_write_what_was_posted.Goals as goal

pub returns : goal.returns
returns g c = workers_write g.S.Store.tells g.S.Store.files g.S.Store.failures
