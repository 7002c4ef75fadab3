use Rattle.std.proofs.Common.{sym, subst}
use Rattle.std.proofs.lemmas.List.Elements.{All-get_or}
use Rattle.alog_sink.specs.Lines.{MayWrite}
use Rattle.alog_sink.specs.Turn.{LeafView}
use Rattle.alog_sink.proofs.fan.may_give.Goals as goal

pub returns-then-not-may_take : goal.returns-then-not-may_take
returns-then-not-may_take g c =
    let capacity = c.args.line.now.capacity in
    let May : LeafView g.row.S.Denot → Type 0 = λ l. MayWrite l.face c.args.message.now capacity in (
      λ f. absurd (cc),
      λ all. c.if-not-may_take.ensures.1 (subst May (sym c.member-item.is)
          (All-get_or May c.args.members.now c.loop-member.member-index c.member-item.result c.loop-member-test.true all)),
    )
