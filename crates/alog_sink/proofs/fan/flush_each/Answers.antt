use Rattle.std.proofs.Common.{◌+◌, set, Result, sym, subst, arith}
use Rattle.alog_sink.specs.Turn.{LeafView, Flushes}
use Rattle.alog_sink.specs.declared.leaf.SinkError.{SinkError}
use Rattle.alog_sink.proofs.Fans.{SoFar, one_more}
use Rattle.alog_sink.proofs.fan.flush_each.Goals as goal

pub loop-i-preserved : goal.loop-i-preserved
loop-i-preserved g c =
    let i = c.loop-i.i in
    let d = c.index-members-i.result in
    let View : Type 0 = LeafView g.row.S.Denot in
    let Does : View → Result Unit SinkError → View → Type 0 = Flushes g.S.Store.tells g.S.Store.files g.S.Store.failures in
    let old = c.args.members.now in
    let new = c.flush-given.new.self in
    let here : Does d c.flush-given.result new = subst (λ o. Does o c.flush-given.result new) (sym c.index-members-i.is) c.flush-given.ensures in
    subst (λ a. SoFar Does tt (i + 1) old (set c.loop-i.members i new) a) (sym c.or_fault-answer.ensures)
    (one_more Does tt old c.loop-i.members (omega arith) (omega arith) c.index-members-i.is c.loop-i.invariant here)
