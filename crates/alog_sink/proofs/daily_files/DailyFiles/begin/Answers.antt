use Rattle.std.proofs.Common.{◌≡◌, ◌∙◌, Ok, true, ap, rules, to_z, of_z}
use Rattle.std.specs.Int.{w64}
use Rattle.std.proofs.lemmas.Int.{to_z-of_z}
use Rattle.alog_sink.specs.DailyFiles.{Days, is_later, period_of}
use Rattle.alog_sink.specs.contracts.daily_files.DailyFiles.{the_view}
use Rattle.alog_sink.specs.declared.store.StoreError.{StoreError}
use Rattle.alog_sink.proofs.DailyLine.{begins_as, begins_done}
use Rattle.alog_sink.proofs.daily_files.DailyFiles.begin.Goals as goal

pub returns-clause-done : goal.returns-clause-done
returns-clause-done g c = λ tells w shown.
    let d = c.args.self.now in
    let later : is_later d.latest c.period_of-period.result ≡ true = search rules in
    let period : c.period_of-period.result ≡ period_of d.limits.change w.at =
    c.period_of-period.ensures.period w.at shown ∙ ap (λ (x : Days). period_of x.limits.change w.at) c.self.view_is in
    begins_done d w c.period_of-period.result c.date_of.result later period (c.date_of.ensures.date w.at shown)
    {A = Unit {0}} {E = StoreError} (Ok tt) (g.S.Store.files c.args.store.now) (g.S.Store.files c.open_date.new.store)
    (c.in_ok-open_date.ensures.done tells)

pub returns-clause-begun : goal.returns-clause-begun
returns-clause-begun g c = λ w shown.
    let d = c.args.self.now in
    let i = c.self-2.inside in
    let later : is_later d.latest c.period_of-period.result ≡ true = search rules in
    let period : c.period_of-period.result ≡ period_of d.limits.change w.at =
    c.period_of-period.ensures.period w.at shown ∙ ap (λ (x : Days). period_of x.limits.change w.at) c.self.view_is in
    let back : to_z w64 (of_z w64 c.period_of-period.result) ≡ c.period_of-period.result =
    to_z-of_z w64 c.period_of-period.result (search rules) in
    begins_as d w c.period_of-period.result c.date_of.result later period (c.date_of.ensures.date w.at shown) (the_view i)
    c.open_date.new.self (to_z w64 (of_z w64 c.period_of-period.result)) c.self-2.view_is c.in_ok-open_date.ensures.opened back
