use Rattle.alog_pattern.proofs.SharedPaddedLength.{length-pad}
use Rattle.alog_pattern.proofs.laws.padded_length.Goals as goal

pub returns : goal.returns
returns c = length-pad
