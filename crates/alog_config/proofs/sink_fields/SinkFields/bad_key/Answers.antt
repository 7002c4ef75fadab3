use Rattle.std.proofs.Common.{[], ◌∷◌}
use Rattle.alog_config.proofs.Told.{told_first}
use Rattle.alog_config.specs.Culprits.{IsBadSinkKey}
use Rattle.alog_config.specs.declared.words.Key.TheVariants.{Name, Kind, Level, Pattern, File, MaxSize, MaxFiles, Hour, Minute, Of}
use Rattle.alog_config.proofs.sink_fields.SinkFields.bad_key.Goals as goal

pub returns : goal.returns
returns c = told_first
    ((Name, c.is_bad.result) ∷ (Kind, c.is_bad-2.result) ∷ (Level, c.is_bad-3.result) ∷ (Pattern, c.is_bad-4.result)
    ∷ (File, c.has_bad_file_key.result) ∷ (MaxSize, c.is_bad-5.result) ∷ (MaxFiles, c.is_bad-6.result) ∷ (Hour, c.is_bad-7.result)
    ∷ (Minute, c.is_bad-8.result) ∷ (Of, c.has_bad_of_key.result) ∷ [])
    (IsBadSinkKey c.args.earlier.now c.args.self.now) c.first_told.result (
      c.is_bad.ensures,
      (
        c.is_bad-2.ensures,
        (
          c.is_bad-3.ensures,
          (
            c.is_bad-4.ensures,
            (
              c.has_bad_file_key.ensures,
              (
                c.is_bad-5.ensures,
                (c.is_bad-6.ensures, (c.is_bad-7.ensures, (c.is_bad-8.ensures, (c.has_bad_of_key.ensures, tt)))),
              ),
            ),
          ),
        ),
      ),
    )
    c.first_told.ensures
