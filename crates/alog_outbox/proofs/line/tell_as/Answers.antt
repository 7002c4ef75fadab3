use Rattle.alog_outbox.proofs.Relaying.{idles}
use Rattle.alog_outbox.proofs.line.tell_as.Goals as goal

pub another-idle-requires-clause-rule : goal.another-idle-requires-clause-rule
another-idle-requires-clause-rule g c = idles _ _ _
