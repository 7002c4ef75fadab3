use Rattle.std.proofs.Common.{ap, sym, ◌∙◌, rules, FitsSigned}
use Rattle.std.specs.Int.{w64}
use Rattle.std.proofs.lemmas.Int.{to_z-of_z}
use Rattle.alog_format.specs.Civil.{local_nanos}
use Rattle.alog_format.specs.declared.civil.Civil.{Civil}
use Rattle.alog_sink.specs.declared.names.Date.{Date}
use Rattle.alog_sink.proofs.DailyDays.{shown_date}
use Rattle.alog_sink.proofs.daily_files.date_of.Goals as goal

abbrev date_in : Civil → Date
date_in f = record { year = f.year; month = f.month; day = f.day }

pub returns-clause-date : goal.returns-clause-date
returns-clause-date c = λ at shown.
    let s = c.civil_at-civil.ensures in
    let fits : FitsSigned w64 c.args.message.now.time = search rules in
    let t = ap (local_nanos c.args.zone.now) (to_z-of_z w64 c.args.message.now.time fits) in
    ap date_in s.2 ∙ shown_date s.0 at (s.1 ∙ (t ∙ sym shown))
