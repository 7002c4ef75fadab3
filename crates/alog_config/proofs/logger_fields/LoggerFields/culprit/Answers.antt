use Rattle.std.proofs.Common.{[], ◌∷◌, subst, sym}
use Rattle.alog_config.proofs.Told.{told_first}
use Rattle.alog_config.specs.Culprits.{IsBadLoggerKey, IsLoggerCulprit}
use Rattle.alog_config.specs.declared.fault.Rule.{Rule}
use Rattle.alog_config.specs.declared.words.Key.TheVariants.{Name, Level, Policy, Sinks, FlushOn, Backtrace}
use Rattle.alog_config.proofs.logger_fields.LoggerFields.culprit.Goals as goal

pub returns-in-BadValue : goal.returns-in-BadValue
returns-in-BadValue c =
    let f = c.args.self.now in
    let told = told_first
    ((Name, c.is_bad.result) ∷ (Level, c.is_bad-in-BadValue.result) ∷ (Policy, c.is_bad-in-BadValue-2.result)
    ∷ (Sinks, c.has_bad_sinks_key.result) ∷ (FlushOn, c.is_bad-in-BadValue-3.result) ∷ (Backtrace, c.is_bad-in-BadValue-4.result) ∷ [])
    (IsBadLoggerKey c.args.sinks.now f) c.first_told.result (
      c.is_bad.ensures,
      (
        c.is_bad-in-BadValue.ensures,
        (
          c.is_bad-in-BadValue-2.ensures,
          (
            c.has_bad_sinks_key.ensures,
            (c.is_bad-in-BadValue-3.ensures, (c.is_bad-in-BadValue-4.ensures, tt)),
          ),
        ),
      ),
    )
    c.first_told.ensures in
    subst (λ (rule : Rule). IsLoggerCulprit c.args.sinks.now f rule c.first_told.result) (sym c.in-BadValue.is) told
