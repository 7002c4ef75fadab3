use Rattle.std.proofs.Common.{length}
use Rattle.alog_config.proofs.culprit.+first_told.Given as goal

abbrev pub decreases-first_told : goal.decreases-first_told
decreases-first_told l = length l.keys.now
