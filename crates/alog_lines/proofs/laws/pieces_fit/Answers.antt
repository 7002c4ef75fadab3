use Rattle.alog_lines.proofs.LawLemmas.{pieces_fit}
use Rattle.alog_lines.proofs.laws.pieces_fit.Goals as goal

pub returns : goal.returns
returns c = pieces_fit
