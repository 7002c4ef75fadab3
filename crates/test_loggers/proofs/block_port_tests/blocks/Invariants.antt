use Rattle.std.specs.List.{AllByRecursion}
use Rattle.alog_registry.specs.Limit.{HoldsTo}
use Rattle.test_loggers.specs.declared.trial.TheConstants.{TEXT_LIMIT}
use Rattle.test_loggers.proofs.block_port_tests.blocks.Given as goal

abbrev pub invariant-loop : goal.invariant-loop
invariant-loop l = AllByRecursion (HoldsTo (record { most = TEXT_LIMIT })) l.blocks.items
