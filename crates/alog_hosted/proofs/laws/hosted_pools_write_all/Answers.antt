use Rattle.alog_hosted.proofs.Lines.{hosted_pools_write}
use Rattle.alog_hosted.proofs.laws.hosted_pools_write_all.Goals as goal

pub returns : goal.returns
returns g c = hosted_pools_write g.S.Store.tells g.S.Store.files g.S.Store.failures
