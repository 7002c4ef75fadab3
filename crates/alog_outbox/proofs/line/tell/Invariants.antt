use Rattle.alog_outbox.specs.Calls.{call}
use Rattle.alog_outbox.proofs.line.tell.Given as goal

abbrev pub ghosts-tell_as : goal.ghosts-tell_as
ghosts-tell_as a = record { call = call a._kind a._name.now a._rest.now }
