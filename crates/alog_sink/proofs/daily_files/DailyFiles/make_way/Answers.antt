use Rattle.std.proofs.Common.{◌≡◌, ◌∙◌, OnOk, Some, true, ap, sym, subst, rules, length}
use Rattle.std.specs.Prelude.{option_copied}
use Rattle.alog_sink.specs.DailyDeeds.{makes_way}
use Rattle.alog_sink.specs.Deeds.{all_done}
use Rattle.alog_sink.specs.DailyFiles.{Days, names_known}
use Rattle.alog_sink.specs.Files.{AreSame}
use Rattle.alog_sink.specs.Names.{dated}
use Rattle.alog_sink.proofs.DailyPut.{way_done, test_is}
use Rattle.alog_sink.proofs.daily_files.DailyFiles.make_way.Goals as goal

pub returns-clause-done : goal.returns-clause-done
returns-clause-done g c = λ tells.
    let i = c.self.inside in
    let is_full : c.is_full.result ≡ true = search rules in
    let full : length i.dates.items ≡ names_known i.max_files =
    test_is (length i.dates.items) i.dates.capacity (sym c.is_full.ensures ∙ is_full) ∙ c.self.invariant.3 in
    let first : option_copied c.front.result ≡ Some c.in-Some.oldest = ap option_copied c.in-Some.is ∙ ap Some c.in-Some.oldest-is in
    let named : dated c.as_str.result.now c.in-Some.field-0.now ≡ dated i.file c.in-Some.oldest =
    ap (λ f. dated f c.in-Some.field-0.now) c.as_str.ensures ∙ ap (dated i.file) c.in-Some.oldest-is in
    subst (λ (d : Days). OnOk c.remove.result (AreSame (all_done (makes_way d.limits.max_files d.names) (g.S.Store.files c.args.store.now))
    (g.S.Store.files c.remove.new.self))) c.self.view_is
    (way_done i.file {max = i.max_files} i.dates.items (search rules) full (sym c.front.ensures ∙ first)
    (c.as_str-2.ensures.value ∙ (c.write_dated.ensures.name ∙ named)) (g.S.Store.files c.args.store.now)
    (g.S.Store.files c.remove.new.self) c.remove.result (c.remove.ensures.done tells))
