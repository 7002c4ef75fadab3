use Rattle.std.proofs.Common.{◌≢◌, ℕ, ◌<◌, Some}
use Rattle.alog_registry.specs.Listed.{name_at}
use Rattle.alog_registry.proofs.lookup.number_of.Given as goal

abbrev pub invariant-loop-i : goal.invariant-loop-i
invariant-loop-i l = (k : ℕ) → k < l.i → name_at l.loggers k ≢ Some l.name
