use Rattle.std.proofs.Common.{[], ◌∷◌}
use Rattle.alog_config.specs.Culprits.{IsBadTopKey}
use Rattle.alog_config.specs.declared.words.Key.TheVariants.{Queue, Workers, Text, Offset, Zone, Process, Retry, Sink, Logger}
use Rattle.alog_config.proofs.Told.{told_first}
use Rattle.alog_config.proofs.top.TopFields.bad_key.Goals as goal

pub returns : goal.returns
returns c =
    told_first (
    (Queue, c.is_bad.result) ∷ (Workers, c.is_bad-2.result) ∷ (Text, c.is_bad-3.result) ∷ (Offset, c.is_bad-4.result)
    ∷ (Zone, c.has_bad_zone_key.result) ∷ (Process, c.is_bad-5.result) ∷ (Retry, c.is_bad-6.result) ∷ (Sink, c.is_bad-7.result)
    ∷ (Logger, c.is_bad-8.result) ∷ []
    ) (IsBadTopKey c.args.self.now) c.first_told.result (
      c.is_bad.ensures,
      (
        c.is_bad-2.ensures,
        (
          c.is_bad-3.ensures,
          (
            c.is_bad-4.ensures,
            (
              c.has_bad_zone_key.ensures,
              (
                c.is_bad-5.ensures,
                (
                  c.is_bad-6.ensures,
                  (c.is_bad-7.ensures, (c.is_bad-8.ensures, tt)),
                ),
              ),
            ),
          ),
        ),
      ),
    )
    c.first_told.ensures
