use Rattle.std.proofs.Common.{[], sym, subst}
use Rattle.alog_sink.specs.DailyFiles.{DayLimits, Days, StandsFor, change_at}
use Rattle.alog_sink.specs.Refused.{IsNewDaily}
use Rattle.alog_sink.proofs.DailyOn.{begins}
use Rattle.alog_sink.proofs.Opens.{opened}
use Rattle.alog_sink.proofs.sink.Sink.daily.Goals as goal

pub returns-in-Ok-clause-opened : goal.returns-in-Ok-clause-opened
returns-in-Ok-clause-opened g c =
    let limits : DayLimits = record {
      file = c.args.file.now;
      change = change_at c.args.hour c.args.minute;
      max_files = c.args.max_files;
    } in
    let files = g.S.Store.files c.args.store in
    opened {tells = g.S.Store.tells} g.S.Store.files (IsNewDaily limits) {opening = files} c.open-in-Ok.ensures.opened c.in-Ok.ensures
    (λ t. subst (λ (d : Days). StandsFor d files [] files) (sym c.in-Ok.ensures) (begins limits files))
