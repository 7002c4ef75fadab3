use Rattle.std.proofs.Common.{rules, ◌≡◌, ◌≢◌, ◌+◌, ◌<◌, ◌^◌, [], ◌∷◌, ◌++◌, length, sym, subst, ap, ◌∙◌, arith}
use Rattle.std.proofs.lemmas.Result.{err_from_is_err_and}
use Rattle.alog_sink.specs.contracts.rotation.Rotation.{the_view}
use Rattle.alog_sink.specs.RotationDeeds.{Rotating, StandsFor, deeds_of, with_line}
use Rattle.alog_sink.proofs.RotatedDoes.{does_ok, does_err}
use Rattle.alog_sink.proofs.RotatedPut.{room_breaks, line_does, line_stands, with_line_is}
use Rattle.alog_sink.proofs.rotation.Rotation.put.Goals as goal

pub returns-in_err-left-clause-deeds : goal.returns-in_err-left-clause-deeds
returns-in_err-left-clause-deeds g c = λ tells.
    let p = err_from_is_err_and c.from_residual.result c.from_residual.ensures.1 in
    let some : length c.args.line.now ≢ 0 = search rules in
    does_err (deeds_of c.args.self.now c.args.line.now) (g.S.Store.files c.args.store.now) (g.S.Store.files c.make_room.new.store)
    c.from_residual.result p.0 p.1
    (room_breaks c.args.self.now c.args.line.now some (g.S.Store.files c.args.store.now) (g.S.Store.files c.make_room.new.store)
    (c.in_err-left.ensures.deeds tells).failed)

pub returns-clause-stands : goal.returns-clause-stands
returns-clause-stands g c = λ tells opening lines stands.
    let some : length c.args.line.now ≢ 0 = search rules in
    let small : c.args.self.now.limits.max_files < 2 ^ 64 = subst (λ (r : Rotating). r.limits.max_files < 2 ^ 64) c.self.view_is
    (omega arith) in
    let view : with_line c.args.self.now c.args.line.now
    ≡ the_view (record {
      names = c.self.inside.names;
      size = c.in_ok-left.left + length c.args.line.now;
      max_size =
          c.self.inside.max_size;
    }) =
    with_line_is c.args.self.now c.args.line.now c.in_ok-left.left some c.in_ok-left.ensures.left
    ∙ ap (λ (r : Rotating). record { limits = r.limits; size = c.in_ok-left.left + length c.args.line.now }) (sym c.self.view_is) in
    subst (λ r. StandsFor r opening (lines ++ c.args.line.now ∷ []) (g.S.Store.files c.append.new.self)) view
    (line_stands c.args.self.now c.args.line.now some (g.S.Store.files c.args.store.now) c.file.result.now (search rules)
    (g.S.Store.files c.make_room.new.store) (g.S.Store.files c.append.new.self) (c.in_ok-left.ensures.deeds tells).done small
    (c.in_ok-append.ensures.done tells) opening lines stands)

pub returns-clause-deeds : goal.returns-clause-deeds
returns-clause-deeds g c = λ tells.
    let some : length c.args.line.now ≢ 0 = search rules in
    does_ok (deeds_of c.args.self.now c.args.line.now) (g.S.Store.files c.args.store.now) (g.S.Store.files c.append.new.self) tt
    (line_does c.args.self.now c.args.line.now some (g.S.Store.files c.args.store.now) c.file.result.now (search rules)
    (g.S.Store.files c.make_room.new.store) (g.S.Store.files c.append.new.self) (c.in_ok-left.ensures.deeds tells).done
    (c.in_ok-append.ensures.done tells))
