use Rattle.alog_replay.proofs.EntryLemmas.{one_entry_lem}
use Rattle.alog_replay.proofs.entry.one_entry.Goals as goal

pub returns : goal.returns
returns c = one_entry_lem
