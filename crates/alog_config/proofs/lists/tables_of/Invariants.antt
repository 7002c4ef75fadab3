use Rattle.std.proofs.Common.{◌≡◌, map, take}
use Rattle.alog_config.specs.Values.{tables_in}
use Rattle.toml.specs.Data.{table}
use Rattle.toml.specs.View.{view}
use Rattle.alog_config.proofs.lists.tables_of.Given as goal

abbrev pub invariant-loop-item : goal.invariant-loop-item
invariant-loop-item l = map view (take l.item-index l.items) ≡ map table (tables_in l.tables)
