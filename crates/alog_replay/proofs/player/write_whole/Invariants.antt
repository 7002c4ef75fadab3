use Rattle.alog_replay.proofs.Writing.{HasWritten}
use Rattle.alog_replay.proofs.player.write_whole.Given as goal

abbrev pub invariant-loop : goal.invariant-loop
invariant-loop g l = HasWritten (g.W.Write.contents l.fn.writer) (g.W.Write.contents l.writer) l.bytes l.rest
