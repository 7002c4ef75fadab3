use Rattle.std.specs.Prelude.{◌≡◌}
use Rattle.std.specs.List.{AllByRecursion}
use Rattle.alog_hosted.specs.Workers.{IsWorkerOf}
use Rattle.test_hosted.proofs.trial.workers_of.Given as goal

abbrev pub invariant-loop-number : goal.invariant-loop-number
invariant-loop-number g l = (l.host.hosted ≡ l.fn.host.hosted) × AllByRecursion (IsWorkerOf l.fn.hosted) l.all.items
