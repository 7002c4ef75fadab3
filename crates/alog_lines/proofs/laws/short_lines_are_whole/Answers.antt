use Rattle.alog_lines.proofs.LawLemmas.{short_lines_are_whole}
use Rattle.alog_lines.proofs.laws.short_lines_are_whole.Goals as goal

pub returns : goal.returns
returns c = short_lines_are_whole
