use Rattle.std.proofs.Common.{sym, subst, Ok, arith}
use Rattle.alog_sink.specs.contracts.rotation.Rotation.{the_view}
use Rattle.alog_sink.specs.Deeds.{all_done, Does}
use Rattle.alog_sink.specs.Files.{AreSame}
use Rattle.alog_sink.specs.RotationDeeds.{makes_room}
use Rattle.alog_sink.proofs.RotatedDoes.{does_ok}
use Rattle.alog_sink.proofs.RotatedPut.{full_room}
use Rattle.alog_sink.proofs.rotation.Rotation.make_room.Goals as goal

pub returns-clause-deeds : goal.returns-clause-deeds
returns-clause-deeds g c = λ tells.
    let view = the_view c.self.inside in
    let old = g.S.Store.files c.args.store.now in
    let new = g.S.Store.files c.rotate.new.store in
    let room = full_room view c.args.length c.if-self-eq0.false (omega arith) in
    let given = rw c.as_slice.ensures.value at (c.in_ok-rotate.ensures.deeds tells) in
    subst (λ r. Does (makes_room r c.args.length) old new (Ok 0)) c.self.view_is
    (does_ok (makes_room view c.args.length) old new 0 (subst (λ deeds. AreSame (all_done deeds old) new) (sym room) given.done))
