use Rattle.std.proofs.Common.{◌≡◌, ◌+◌, ◌∙◌, get_or, set, sym, subst, arith}
use Rattle.std.proofs.lemmas.List.Elements.{All-get_or}
use Rattle.alog_sink.specs.Lines.{MayWrite}
use Rattle.alog_sink.specs.Turn.{Answer, LeafView, Takes}
use Rattle.alog_sink.specs.declared.leaf.Taken.TheVariants.{Written}
use Rattle.alog_sink.proofs.Fans.{SoFar, not_yet, one_more}
use Rattle.alog_sink.proofs.fan.take_each.Goals as goal

pub take-given-requires : goal.take-given-requires
take-given-requires g c =
    let i = c.loop-i.i in
    let d = c.index-members-i.result in
    let m = c.args.message.now in
    let same : get_or c.loop-i.members i d ≡ get_or c.args.members.now i d = not_yet
    (λ o a n. Takes g.S.Store.tells g.S.Store.files g.S.Store.failures o m a n) Written c.args.members.now c.loop-i.members i
    c.loop-i.answer d (omega arith) (omega arith) c.loop-i.invariant.0 in
    subst (λ (l : LeafView g.row.S.Denot). MayWrite l.face m c.loop-i.line.capacity) (sym same)
    (subst (λ n. MayWrite (get_or c.args.members.now i d).face m n) (sym c.loop-i.invariant.1)
    (All-get_or (λ (l : LeafView g.row.S.Denot). MayWrite l.face m c.args.line.now.capacity) c.args.members.now i d (omega arith) c.requires))

pub loop-i-preserved : goal.loop-i-preserved
loop-i-preserved g c =
    let m = c.args.message.now in
    let i = c.loop-i.i in
    let d = c.index-members-i.result in
    let View : Type 0 = LeafView g.row.S.Denot in
    let Does : View → Answer → View → Type 0 = λ o a n. Takes g.S.Store.tells g.S.Store.files g.S.Store.failures o m a n in
    let old = c.args.members.now in
    let new = c.take-given.new.self in
    let here : Does d c.take-given.result new = subst (λ o. Does o c.take-given.result new) (sym c.index-members-i.is) c.take-given.ensures.takes in (
      subst (λ a. SoFar Does Written (i + 1) old (set c.loop-i.members i new) a) (sym c.or_fault-answer.ensures)
          (one_more Does Written old c.loop-i.members (omega arith) (omega arith) c.index-members-i.is c.loop-i.invariant.0 here),
      c.take-given.ensures.capacity ∙ c.loop-i.invariant.1,
    )
