use Rattle.std.proofs.Common.{ℕ, ◌<◌, get_or}
use Rattle.alog_sink.specs.Lines.{MayWrite}
use Rattle.alog_sink.specs.Turn.{LeafView}
use Rattle.alog_sink.proofs.fan.may_give.Given as goal

abbrev pub invariant-loop-member : goal.invariant-loop-member
invariant-loop-member g l =
    (k : ℕ) (d : LeafView g.row.S.Denot) → k < l.member-index → MayWrite (get_or l.members k d).face l.message l.line.capacity
