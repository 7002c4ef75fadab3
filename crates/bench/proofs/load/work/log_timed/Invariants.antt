use Rattle.std.specs.Prelude.{◌≡◌}
use Rattle.bench.proofs.load.work.log_timed.Given as goal

abbrev pub invariant-loop : goal.invariant-loop
invariant-loop g l = l.producer.shared ≡ l.fn.producer.shared
