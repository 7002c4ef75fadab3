use Rattle.alog_lines.proofs.LawLemmas.{pieces_are_the_line}
use Rattle.alog_lines.proofs.laws.pieces_are_the_line.Goals as goal

pub returns : goal.returns
returns c = pieces_are_the_line
