use Rattle.alog_outbox.proofs.Relaying.{gets}
use Rattle.alog_outbox.proofs.line.receive.Goals as goal

pub try_pop_as-requires-clause-rule : goal.try_pop_as-requires-clause-rule
try_pop_as-requires-clause-rule c = gets _ _ c.requires.pass.may
