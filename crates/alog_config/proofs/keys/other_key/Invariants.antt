use Rattle.std.proofs.Common.{Option, List, ℕ}
use Rattle.alog_config.specs.Culprits.{IsOtherKey}
use Rattle.toml.specs.View.{members_view}
use Rattle.alog_config.proofs.keys.other_key.Given as goal

abbrev pub invariant-loop-key : goal.invariant-loop-key
invariant-loop-key l =
    (goal.iterator-loop-key).can_next l.key-iterator × (goal.iterator-loop-key).is_finite l.key-iterator
    × ((found : Option (List ℕ)) → IsOtherKey l.owner (members_view l.key-iterator) found → IsOtherKey l.owner (members_view l.table.entries) found)
