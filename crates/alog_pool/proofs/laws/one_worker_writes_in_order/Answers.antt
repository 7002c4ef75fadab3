use Rattle.alog_pool.proofs.OneWorker.{one_worker_writes_in_order}
use Rattle.alog_pool.proofs.laws.one_worker_writes_in_order.Goals as goal

pub returns : goal.returns
returns g c = one_worker_writes_in_order g.S.Store.tells g.S.Store.files g.S.Store.failures
