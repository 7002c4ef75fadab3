use Rattle.std.proofs.Common.{◌≡◌, ◌∙◌, ap}
use Rattle.std.proofs.lemmas.Result.{err_from_is_err_and}
use Rattle.alog_sink.specs.Daily.{last_name}
use Rattle.alog_sink.specs.DailyFiles.{Days, deeds_of, entry_of, with_entry}
use Rattle.alog_sink.proofs.DailyLine.{line_breaks, line_does, line_stands}
use Rattle.alog_sink.proofs.RotatedDoes.{does_err}
use Rattle.alog_sink.proofs.daily_files.DailyFiles.put.Goals as goal

pub returns-in_err-begin-clause-does : goal.returns-in_err-begin-clause-does
returns-in_err-begin-clause-does g c = λ tells w shown line.
    let d = c.args.self.now in
    let p = err_from_is_err_and c.from_residual.result c.from_residual.ensures.1 in
    does_err (deeds_of d (entry_of d.limits w)) (g.S.Store.files c.args.store.now) (g.S.Store.files c.begin.new.store)
    c.from_residual.result p.0 p.1
    (line_breaks d (entry_of d.limits w) (c.in_err-begin.ensures.failed tells))

pub returns-clause-does : goal.returns-clause-does
returns-clause-does g c = λ tells w shown line.
    let d = c.args.self.now in
    let name : c.as_str.result.now ≡ last_name (with_entry d (entry_of d.limits w)).names =
    c.as_str.ensures.value ∙ (c.self.invariant.0
    ∙ ap (λ (x : Days). last_name x.names) (c.self.view_is ∙ c.in_ok-begin.ensures.begun w shown)) in
    line_does d (entry_of d.limits w) c.as_str.result.now c.args.line.now name line (g.S.Store.files c.args.store.now)
    (g.S.Store.files c.begin.new.store) (g.S.Store.files c.append.new.self) (c.in_ok-begin.ensures.done tells w shown)
    c.append.result (c.append.ensures.done tells) (c.append.ensures.failed tells)

pub returns-clause-kept : goal.returns-clause-kept
returns-clause-kept g c = λ tells opening ws w shown line stands.
    let d = c.args.self.now in
    line_stands w (c.in_ok-begin.ensures.begun w shown) (c.begin.ensures.year w shown) (returns-clause-does g c tells w shown line) stands
