use Rattle.alog_program.proofs.Statuses.{replays_fault}
use Rattle.alog_program.proofs.program.replay_told.Goals as goal

pub returns-in-Err-clause-replays : goal.returns-in-Err-clause-replays
returns-in-Err-clause-replays g c =
    replays_fault {remaining = g.I.Read.remaining c.args.script.now.input} {left = g.I.Read.remaining c.replay.new.reader.input}
    {old = g.O.Write.contents c.args.printed.now.output} {new = g.O.Write.contents c.replay.new.writer.output} c.end_replay.ensures
    c.in-Err.ensures.refused c.in-Err.ensures.front
