use Rattle.std.specs.List.{AllByRecursion}
use Rattle.alog_pattern.specs.declared.patterns.TheConstants.{LINE_MAX}
use Rattle.alog_sink.specs.Sinks.{Suits}
use Rattle.test_hosted.specs.declared.sinks.TheConstants.{TEXT_LIMIT}
use Rattle.test_hosted.proofs.trial.sinks.Given as goal

abbrev pub invariant-loop-fuse : goal.invariant-loop-fuse
invariant-loop-fuse l = AllByRecursion (Suits TEXT_LIMIT LINE_MAX) l.sinks.items
