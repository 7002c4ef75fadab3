use Rattle.std.proofs.Common.{◌≡◌, count_by, drop, take}
use Rattle.alog_config.specs.Parts.{AreBuilt}
use Rattle.alog_config.specs.Sinks.{is_leaf}
use Rattle.alog_config.proofs.building.parts_of.Given as goal

abbrev pub invariant-loop-number : goal.invariant-loop-number
invariant-loop-number g l = record {
  built : AreBuilt g.S.Store.tells g.S.Store.files g.S.Store.failures l.config l.fn.stores.items l.number l.parts.items;
  left : l.stores.items ≡ drop (count_by is_leaf (take l.number l.config.sinks.items)) l.fn.stores.items;
}
