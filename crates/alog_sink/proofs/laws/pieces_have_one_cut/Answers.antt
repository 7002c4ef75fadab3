use Rattle.alog_sink.proofs.RotatedRuns.{pieces_have_one_cut}
use Rattle.alog_sink.proofs.laws.pieces_have_one_cut.Goals as goal

pub returns : goal.returns
returns c = pieces_have_one_cut
