use Rattle.alog_lines.proofs.LawLemmas.{lines_end_once}
use Rattle.alog_lines.proofs.laws.lines_end_once.Goals as goal

pub returns : goal.returns
returns c = lines_end_once
