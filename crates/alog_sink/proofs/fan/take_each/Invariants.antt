use Rattle.std.proofs.Common.{◌≡◌}
use Rattle.alog_sink.specs.Turn.{Takes}
use Rattle.alog_sink.specs.declared.leaf.Taken.TheVariants.{Written}
use Rattle.alog_sink.proofs.Fans.{SoFar}
use Rattle.alog_sink.proofs.fan.take_each.Given as goal

abbrev pub invariant-loop-i : goal.invariant-loop-i
invariant-loop-i g l =
    SoFar (λ o a n. Takes g.S.Store.tells g.S.Store.files g.S.Store.failures o l.message a n) Written l.i l.fn.members l.members l.answer
    × (l.line.capacity ≡ l.fn.line.capacity)
