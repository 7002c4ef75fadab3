use Rattle.alog_pool.proofs.Leaving as leaving
use Rattle.alog_pool.proofs.laws.no_work_is_left.Goals as goal

pub returns : goal.returns
returns c = leaving.no_work_is_left
