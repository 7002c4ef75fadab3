use Rattle.std.proofs.Common.{ℕ, List, [], ◌∷◌, ◌++◌, length, take, refl, sym, subst}
use Rattle.std.proofs.lemmas.Option.{slice_get_read}
use Rattle.alog_config.proofs.SharedPicking.{each_is_more, take_one_more}
use Rattle.alog_config.specs.Built.{EachIs}
use Rattle.alog_server.specs.SinkEnds.{HasLines, IsFileOf}
use Rattle.alog_server.proofs.sink_end.files_named.Goals as goal

pub unreachable-requires : goal.unreachable-requires
unreachable-requires c =
    let none = c.in_default.ensures.none refl in
    c.requires (
      c.loop-name.name-index,
      c.name-item.result,
      c.loop-name-test.true,
      sym c.name-item.is,
      λ has. none (subst (λ name. HasLines c.args.sinks.now name) (sym c.as_str.ensures) has),
    )

pub loop-name-preserved : goal.loop-name-preserved
loop-name-preserved c =
    let names = c.args.names.now in
    let i = c.loop-name.name-index in
    let name = c.name-item.result in
    let here = slice_get_read names (length names) i name refl c.loop-name-test.true c.name-item.is in
    let file = subst (λ n. IsFileOf c.args.sinks.now n c.in-Some.file.now) c.as_str.ensures c.in-Some.ensures.some in
    subst (λ (done : List (List ℕ)). EachIs (IsFileOf c.args.sinks.now) done c.push.new.self) (sym (take_one_more names i name here))
    (subst (λ (files : List (List ℕ)). EachIs (IsFileOf c.args.sinks.now) (take i names ++ name ∷ []) files) (sym c.in_ok-push.ensures.pushed)
    (each_is_more (IsFileOf c.args.sinks.now) (take i names) c.loop-name.files name c.in-Some.file.now c.loop-name.invariant file))
