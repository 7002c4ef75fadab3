use Rattle.std.proofs.Common.{◌≡◌}
use Rattle.test_outbox.proofs.host.Host.take_all.Given as goal

abbrev pub invariant-loop : goal.invariant-loop
invariant-loop l = l.drain.line ≡ l.initial.drain.line
