use Rattle.std.proofs.Common.{◌≡◌, true, All, take}
use Rattle.alog_format.specs.Lasting as lasting
use Rattle.alog_format.proofs.lasting.count_lasting.Given as goal

-- the items so far are counted, and last
abbrev pub invariant-loop-item : goal.invariant-loop-item
invariant-loop-item l = record {
  counted : l.count ≡ l.item-index;
  last : All (λ item. lasting.lasts item ≡ true) (take l.item-index l.items);
}
