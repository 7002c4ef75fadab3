use Rattle.alog_pattern.proofs.SharedReadings.{one_reading}
use Rattle.alog_pattern.proofs.laws.one_reading.Goals as goal

pub returns : goal.returns
returns c = one_reading
