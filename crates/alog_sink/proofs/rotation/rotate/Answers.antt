use Rattle.std.proofs.Common.{◌-◌, length, map, string_bytes, refl, ◌∙◌, arith}
use Rattle.std.proofs.lemmas.Result.{err_from_is_err_and}
use Rattle.alog_sink.specs.RotationDeeds.{base_name, gives_up}
use Rattle.alog_sink.proofs.RotatedDoes.{does_ok, does_err, counts_ok, counts_err, name_at, removed_only, renames_begin, renamed_one}
use Rattle.alog_sink.proofs.RotatedDoes.{renamed_none, renamed_all}
use Rattle.alog_sink.proofs.rotation.rotate.Goals as goal

pub returns-then-names-eq1-clause-deeds : goal.returns-then-names-eq1-clause-deeds
returns-then-names-eq1-clause-deeds g c = λ tells.
    removed_only {n = length c.args.names.now - 1} (omega arith)
    (c.as_str.ensures.value ∙ (name_at (base_name (map string_bytes c.args.names.now)) c.args.names.now c.requires.numbered 0
    c.index-names-0.result (omega arith) c.index-names-0.is))
    {old = g.S.Store.files c.args.store.now} {new = g.S.Store.files c.remove.new.self} {r = c.remove.result}
    (c.remove.ensures.done tells) (c.remove.ensures.failed tells)

pub loop-i-init : goal.loop-i-init
loop-i-init g c = record {
  done = λ _. renames_begin (base_name (map string_bytes c.args.names.now)) (length c.args.names.now - 1)
      (let two = c.if-names-eq1.false in omega arith) (g.S.Store.files c.args.store.now);
  counted = refl;
  within = omega arith;
}

pub loop-i-preserved : goal.loop-i-preserved
loop-i-preserved g c = record {
  done = λ tells.
      renamed_one (gives_up (base_name (map string_bytes c.args.names.now)) (length c.args.names.now - 1))
      (base_name (map string_bytes c.args.names.now)) c.loop-i.i (omega arith)
      c.as_str-in-loop-i.result.now c.as_str-in-loop-i-2.result.now
      (c.as_str-in-loop-i.ensures.value ∙ name_at (base_name (map string_bytes c.args.names.now)) c.args.names.now c.requires.numbered
      (c.loop-i.i - 1 - 1) c.index-names-i.result (omega arith) c.index-names-i.is)
      (c.as_str-in-loop-i-2.ensures.value
      ∙ name_at (base_name (map string_bytes c.args.names.now)) c.args.names.now c.requires.numbered
      (c.loop-i.i - 1) c.index-names-i-in-loop-i.result (omega arith) c.index-names-i-in-loop-i.is)
      (g.S.Store.files c.args.store.now) (g.S.Store.files c.loop-i.store) (g.S.Store.files c.rename.new.self)
      (c.loop-i.invariant.done tells)
      (c.in_ok-rename.ensures.done tells);
  counted = c.in_ok-rename.ensures.counted.done ∙ c.loop-i.invariant.counted;
  within = omega (arith, c.loop-i.invariant.within);
}

pub returns-in_err-rename-clause-deeds : goal.returns-in_err-rename-clause-deeds
returns-in_err-rename-clause-deeds g c = λ tells.
    let p = err_from_is_err_and c.from_residual.result c.from_residual.ensures.1 in
    let all = gives_up (base_name (map string_bytes c.args.names.now)) (length c.args.names.now - 1) in
    does_err all (g.S.Store.files c.args.store.now) (g.S.Store.files c.rename.new.self) c.from_residual.result p.0 p.1
    (renamed_none all (base_name (map string_bytes c.args.names.now)) c.loop-i.i (omega arith)
    c.as_str-in-loop-i.result.now c.as_str-in-loop-i-2.result.now
    (c.as_str-in-loop-i.ensures.value ∙ name_at (base_name (map string_bytes c.args.names.now)) c.args.names.now c.requires.numbered
    (c.loop-i.i - 1 - 1) c.index-names-i.result (omega arith) c.index-names-i.is)
    (c.as_str-in-loop-i-2.ensures.value
    ∙ name_at (base_name (map string_bytes c.args.names.now)) c.args.names.now c.requires.numbered
    (c.loop-i.i - 1) c.index-names-i-in-loop-i.result (omega arith) c.index-names-i-in-loop-i.is)
    (g.S.Store.files c.args.store.now) (g.S.Store.files c.loop-i.store) (g.S.Store.files c.rename.new.self) (c.loop-i.invariant.done tells)
    (c.in_err-rename.ensures.failed tells))

pub returns-in_err-rename-clause-counted : goal.returns-in_err-rename-clause-counted
returns-in_err-rename-clause-counted g c =
    let p = err_from_is_err_and c.from_residual.result c.from_residual.ensures.1 in
    counts_err p.1 c.loop-i.invariant.counted c.in_err-rename.ensures.counted

pub returns-clause-deeds : goal.returns-clause-deeds
returns-clause-deeds g c = λ tells.
    let file = base_name (map string_bytes c.args.names.now) in
    does_ok (gives_up file (length c.args.names.now - 1)) (g.S.Store.files c.args.store.now) (g.S.Store.files c.loop-i.store) tt
    (renamed_all file (length c.args.names.now - 1) c.loop-i.i (omega arith) (let two = c.if-names-eq1.false in omega arith)
    (g.S.Store.files c.args.store.now) (g.S.Store.files c.loop-i.store) (c.loop-i.invariant.done tells))

pub returns-clause-counted : goal.returns-clause-counted
returns-clause-counted g c = counts_ok tt (g.S.Store.failures c.args.store.now)
    (g.S.Store.failures c.loop-i.store) c.loop-i.invariant.counted
