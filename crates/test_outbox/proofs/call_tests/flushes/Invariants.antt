use Rattle.std.proofs.Common.{◌≡◌}
use Rattle.test_outbox.proofs.call_tests.flushes.Given as goal

abbrev pub invariant-loop-done : goal.invariant-loop-done
invariant-loop-done l = l.store.line ≡ l.initial.store.line
