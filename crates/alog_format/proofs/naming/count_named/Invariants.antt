use Rattle.std.proofs.Common.{◌≡◌, true, All, take}
use Rattle.alog_format.specs.Naming as words
use Rattle.alog_format.proofs.naming.count_named.Given as goal

-- the items so far are counted, and hang on name and level alone
abbrev pub invariant-loop-item : goal.invariant-loop-item
invariant-loop-item l = record {
  counted : l.count ≡ l.item-index;
  named : All (λ item. words.names item ≡ true) (take l.item-index l.items);
}
