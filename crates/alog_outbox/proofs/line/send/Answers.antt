use Rattle.alog_outbox.proofs.Relaying.{sends}
use Rattle.alog_outbox.proofs.line.send.Goals as goal

pub try_push_as-requires-clause-rule : goal.try_push_as-requires-clause-rule
try_push_as-requires-clause-rule c = sends _ _ _ _ c.requires.pass.may c.requires.some
