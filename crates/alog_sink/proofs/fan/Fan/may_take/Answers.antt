use Rattle.std.proofs.Common.{◌↔◌, IsTrue, List, subst}
use Rattle.alog_sink.specs.Turn.{FanView, LeafView, MayGive}
use Rattle.alog_sink.proofs.fan.Fan.may_take.Goals as goal

pub returns : goal.returns
returns g c =
    let m = c.args.message.now in
    let capacity = c.args.line.now.capacity in
    subst (λ (f : FanView g.row.S.Denot). IsTrue c.may_give.result ↔ MayGive f.members m capacity) c.self.view_is
    (subst (λ (ls : List (LeafView g.row.S.Denot)). IsTrue c.may_give.result ↔ MayGive ls m capacity) c.as_slice.ensures.value c.may_give.ensures)
