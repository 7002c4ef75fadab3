use Rattle.std.specs.Prelude.{◌≡◌}
use Rattle.std.specs.List.{AllByRecursion}
use Rattle.alog_hosted.specs.Lent.{IsProducerOf}
use Rattle.test_hosted.proofs.trial.producers_of.Given as goal

abbrev pub invariant-loop-number : goal.invariant-loop-number
invariant-loop-number g l = (l.host.hosted ≡ l.fn.host.hosted) × AllByRecursion (IsProducerOf l.fn.hosted) l.all.items
