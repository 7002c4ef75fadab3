use Rattle.std.specs.Prelude.{◌≡◌}
use Rattle.alog_registry.specs.LaneKeeper.{HasList, IsSeated}
use Rattle.test_loggers.proofs.dump_tests.dump_until_held.Given as goal

abbrev pub invariant-loop : goal.invariant-loop
invariant-loop g l = IsSeated l.keeper × HasList l.keeper × (l.keeper.lane ≡ l.initial.keeper.lane)
