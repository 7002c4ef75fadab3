use Rattle.std.specs.Prelude.{◌≡◌}
use Rattle.test_pool.proofs.thread_tests.say_all.Given as goal

abbrev pub invariant-loop-number : goal.invariant-loop-number
invariant-loop-number g l = l.producer.shared ≡ l.fn.producer.shared
