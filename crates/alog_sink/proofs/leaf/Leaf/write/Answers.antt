use Rattle.std.proofs.Common.{FitsSigned, w64, rules}
use Rattle.std.proofs.lemmas.Int.{to_z-of_z}
use Rattle.alog_sink.specs.Turn.{LeafView}
use Rattle.alog_sink.proofs.Turns.{given_wrote, given_fault}
use Rattle.alog_sink.proofs.leaf.Leaf.write.Goals as goal

pub returns-in-Ok-clause-takes : goal.returns-in-Ok-clause-takes
returns-in-Ok-clause-takes g c =
    let i = c.self.inside in
    let v : LeafView g.row.S.Denot = record { face = i.face; target = i.target; store = i.store; broken = i.broken; previous = i.previous } in
    let kept = rw (c.zone-zone.ensures.value, c.write.ensures.same) at c.put.ensures.kept in
    let does = rw (c.zone-zone.ensures.value, c.write.ensures.same) at c.put.ensures.does in
    let time : FitsSigned w64 c.args.message.now.time = search rules in
    rw c.write.ensures.same (simp to_z-of_z (given_wrote g.S.Store.tells g.S.Store.files g.S.Store.failures c.args.self.now v c.self.view_is c.put.new.self c.put.new.store
    c.args.message.now c.as_slice.result.now c.write.new.line.bytes c.requires.whole c.requires.admits c.as_slice.ensures
    c.write.ensures.line c.put.ensures.same c.in-Ok.field-0 c.put.result c.in-Ok.is c.put.ensures.counted does kept))

pub returns-in-Err-clause-takes : goal.returns-in-Err-clause-takes
returns-in-Err-clause-takes g c =
    let i = c.self.inside in
    let v : LeafView g.row.S.Denot = record { face = i.face; target = i.target; store = i.store; broken = i.broken; previous = i.previous } in
    let does = rw (c.zone-zone.ensures.value, c.write.ensures.same) at c.put.ensures.does in
    rw c.write.ensures.same (given_fault g.S.Store.tells g.S.Store.files g.S.Store.failures c.args.self.now v c.self.view_is c.put.new.self c.put.new.store
    c.args.message.now c.as_slice.result.now c.write.new.line.bytes c.requires.whole c.requires.admits c.as_slice.ensures
    c.write.ensures.line c.put.ensures.same c.in-Err.field-0 c.put.result c.in-Err.is c.put.ensures.counted does)
