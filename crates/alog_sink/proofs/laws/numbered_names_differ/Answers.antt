use Rattle.alog_sink.proofs.NamesCut.{numbered_differ}
use Rattle.alog_sink.proofs.laws.numbered_names_differ.Goals as goal

pub returns : goal.returns
returns c = numbered_differ
