use Rattle.std.proofs.Common.{◌≡◌, ◌≤◌, ◌∙◌, false, length, map, ap, sym, subst, arith}
use Rattle.std.specs.Prelude.{option_copied}
use Rattle.std.proofs.lemmas.List.{length-map}
use Rattle.alog_sink.specs.Daily.{is_last}
use Rattle.alog_sink.specs.DailyFiles.{Days, names_known, with_opened}
use Rattle.alog_sink.specs.Names.{dated}
use Rattle.alog_sink.proofs.DailyPut.{again, none_is_last, same_parts, some_is_last}
use Rattle.alog_sink.proofs.daily_files.DailyFiles.is_last.Goals as goal

pub returns-in-Some-clause-last : goal.returns-in-Some-clause-last
returns-in-Some-clause-last c =
    let i = c.self.inside in
    c.eq.ensures
    ∙ subst (λ (d : Days). same_parts c.in-Some.last.now c.args.date ≡ is_last (dated d.limits.file c.args.date) d.names) c.self.view_is
    (some_is_last i.file i.dates.items c.args.date c.in-Some.last.now c.self.invariant.5 c.requires
    (sym c.back.ensures ∙ ap option_copied c.in-Some.is))

pub returns-in-Some-clause-again : goal.returns-in-Some-clause-again
returns-in-Some-clause-again c = λ same.
    let i = c.self.inside in
    let few : length (map (dated i.file) i.dates.items) ≤ names_known i.max_files =
    omega (arith, length-map i.dates.items (dated i.file), c.self.invariant.3, c.self.invariant.4) in
    let test = some_is_last i.file i.dates.items c.args.date c.in-Some.last.now c.self.invariant.5 c.requires
    (sym c.back.ensures ∙ ap option_copied c.in-Some.is) in
    subst (λ (d : Days). d.names ≡ with_opened d.limits.max_files d.names (dated d.limits.file c.args.date)) c.self.view_is
    (again i.max_files (map (dated i.file) i.dates.items) (dated i.file c.args.date) few (sym (c.eq.ensures ∙ test) ∙ same))

pub returns-in-None-clause-last : goal.returns-in-None-clause-last
returns-in-None-clause-last c =
    let i = c.self.inside in
    subst (λ (d : Days). false ≡ is_last (dated d.limits.file c.args.date) d.names) c.self.view_is
    (sym (none_is_last i.file i.dates.items (dated i.file c.args.date) (sym c.back.ensures ∙ ap option_copied c.in-None.is)))
