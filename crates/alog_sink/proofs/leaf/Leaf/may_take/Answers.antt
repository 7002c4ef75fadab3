use Rattle.std.proofs.Common.{◌↔◌, IsTrue, subst}
use Rattle.alog_sink.specs.Lines.{MayWrite}
use Rattle.alog_sink.specs.Turn.{LeafView}
use Rattle.alog_sink.proofs.leaf.Leaf.may_take.Goals as goal

pub returns : goal.returns
returns g c =
    subst (λ (l : LeafView g.row.S.Denot). IsTrue c.may_write.result ↔ MayWrite l.face c.args.message.now c.args.line.now.capacity)
    c.self.view_is c.may_write.ensures
