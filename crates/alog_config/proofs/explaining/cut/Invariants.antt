use Rattle.std.proofs.Common.{string_len, ◌≤◌}
use Rattle.alog_config.specs.declared.explaining.TheConstants.{SHOWN_MAX}
use Rattle.alog_config.proofs.explaining.cut.Given as goal

abbrev pub invariant-loop-c : goal.invariant-loop-c
invariant-loop-c l =
    (goal.iterator-loop-c).can_next l.c-iterator × (goal.iterator-loop-c).is_finite l.c-iterator × (string_len l.shown ≤ SHOWN_MAX)
