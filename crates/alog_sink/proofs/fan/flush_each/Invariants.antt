use Rattle.alog_sink.specs.Turn.{Flushes}
use Rattle.alog_sink.proofs.Fans.{SoFar}
use Rattle.alog_sink.proofs.fan.flush_each.Given as goal

abbrev pub invariant-loop-i : goal.invariant-loop-i
invariant-loop-i g l =
    SoFar (Flushes g.S.Store.tells g.S.Store.files g.S.Store.failures) tt l.i l.fn.members l.members l.answer
