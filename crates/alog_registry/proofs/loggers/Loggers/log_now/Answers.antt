use Rattle.std.proofs.lemmas.Int.{to_z-of_z}
use Rattle.alog_registry.proofs.loggers.Loggers.log_now.Goals as goal

pub returns-clause-logs : goal.returns-clause-logs
returns-clause-logs g c = λ s e.
    let logs = simp (to_z-of_z, c.ranges.time) at c.log_ref_now.ensures.logs in
    logs s e
