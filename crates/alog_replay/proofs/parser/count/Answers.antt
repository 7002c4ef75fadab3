use Rattle.alog_replay.proofs.parser.count.Goals as goal

pub returns-in_err-n-in-Some : goal.returns-in_err-n-in-Some
returns-in_err-n-in-Some c = rw (c.in-Some.is, c.from_residual.ensures) c.in_err-n-in-Some.ensures.spelled

pub returns-in_ok-n-in-Some : goal.returns-in_ok-n-in-Some
returns-in_ok-n-in-Some c = rw c.in-Some.is c.in_ok-n-in-Some.ensures.spelled
