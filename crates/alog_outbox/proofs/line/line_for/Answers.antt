use Rattle.std.proofs.Common.{rules}
use Rattle.alog_outbox.proofs.Relaying.{begins, forks}
use Rattle.alog_outbox.proofs.line.line_for.Goals as goal

pub ruled-requires-clause-rule : goal.ruled-requires-clause-rule
ruled-requires-clause-rule c = begins

pub another-reader-requires-clause-rule : goal.another-reader-requires-clause-rule
another-reader-requires-clause-rule c = forks _ _ (search rules) (search rules)
