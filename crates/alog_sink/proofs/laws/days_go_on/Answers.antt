use Rattle.alog_sink.proofs.DailyFiles.{days_go_on}
use Rattle.alog_sink.proofs.laws.days_go_on.Goals as goal

pub returns : goal.returns
returns c = days_go_on
