use Rattle.std.proofs.Common.{◌≡◌, ◌≤◌}
use Rattle.alog_format.proofs.naming.start_of_names.Given as goal

-- the items so far are counted, and the run begins among them
abbrev pub invariant-loop-item : goal.invariant-loop-item
invariant-loop-item l = record {
  counted : l.seen ≡ l.item-index;
  within : l.start ≤ l.seen;
}
