use Rattle.std.proofs.Common.{rules}
use Rattle.alog_outbox.proofs.Relaying.{forks, idles, merges, totals}
use Rattle.alog_outbox.proofs.line.all_got.Goals as goal

pub another-idle-requires-clause-rule : goal.another-idle-requires-clause-rule
another-idle-requires-clause-rule c = idles _ _ _

pub absorb-requires-clause-rule : goal.absorb-requires-clause-rule
absorb-requires-clause-rule c = merges _ _ _ _ (search rules) (search rules)

pub is_empty_as-is_empty-requires-clause-rule : goal.is_empty_as-is_empty-requires-clause-rule
is_empty_as-is_empty-requires-clause-rule c = totals _ _ (search rules) (search rules)

pub another-requires-clause-rule : goal.another-requires-clause-rule
another-requires-clause-rule c = forks _ _ (search rules) (search rules)
