use Rattle.alog_outbox.proofs.Relaying.{closes}
use Rattle.alog_outbox.proofs.line.send_end.Goals as goal

pub try_push_as-requires-clause-rule : goal.try_push_as-requires-clause-rule
try_push_as-requires-clause-rule c = closes _ _ _ c.requires.pass.may c.requires.all
