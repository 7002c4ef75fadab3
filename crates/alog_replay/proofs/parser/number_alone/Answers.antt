use Rattle.alog_replay.proofs.parser.number_alone.Goals as goal

pub returns-in-Some : goal.returns-in-Some
returns-in-Some c = rw c.in-Some.is c.number.ensures.spelled
