use Rattle.alog_replay.proofs.EntryLemmas.{one_command_lem}
use Rattle.alog_replay.proofs.entry.one_command.Goals as goal

pub returns : goal.returns
returns c = one_command_lem
