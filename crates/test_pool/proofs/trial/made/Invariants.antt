use Rattle.std.proofs.Common.{◌≡◌}
use Rattle.std.specs.List.{AllByRecursion}
use Rattle.test_pool.proofs.trial.made.Given as goal

abbrev pub invariant-loop-number : goal.invariant-loop-number
invariant-loop-number g l = (l.pool.shared ≡ l.fn.pool.shared) × AllByRecursion (λ p. p.shared ≡ l.fn.pool.shared) l.all.items
