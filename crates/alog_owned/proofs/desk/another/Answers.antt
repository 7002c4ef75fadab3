use Rattle.alog_owned.proofs.Laying.{forks}
use Rattle.alog_owned.proofs.desk.another.Goals as goal

pub another-requires-clause-rule : goal.another-requires-clause-rule
another-requires-clause-rule g c items views desk e = forks _ _ c.requires.knows _ items views desk e
