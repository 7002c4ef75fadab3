use Rattle.alog_sink.proofs.NamesDated.{dated_names_differ}
use Rattle.alog_sink.proofs.laws.dated_names_differ.Goals as goal

pub returns : goal.returns
returns c = dated_names_differ
