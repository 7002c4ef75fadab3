use Rattle.alog_owned.proofs.Laying.{goes}
use Rattle.alog_owned.proofs.desk.take.Goals as goal

pub try_pop_as-requires-clause-rule : goal.try_pop_as-requires-clause-rule
try_pop_as-requires-clause-rule g c x items views desk e = goes _ _ c.requires.knows _ x items views desk e
