use Rattle.alog_lane.proofs.SharedLists.{alone_saw_its_own}
use Rattle.alog_lane.proofs.laws.alone_saw_its_own.Goals as goal

pub returns : goal.returns
returns g c = alone_saw_its_own g.row.D.Denot
