use Rattle.alog_format.proofs.OneLine.{one_line}
use Rattle.alog_format.proofs.laws.one_line.Goals as goal

pub returns : goal.returns
returns c = one_line
