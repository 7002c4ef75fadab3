use Rattle.std.proofs.Common.{◌≡◌, ◌++◌, drop}
use Rattle.alog_pattern.specs.Scan.{items_of, items_from}
use Rattle.alog_pattern.proofs.patterns.items_of.Given as goal

-- the items so far and those of what is left are all
abbrev pub invariant-loop-byte : goal.invariant-loop-byte
invariant-loop-byte l = l.items.items ++ items_from l.scan (drop l.byte-index l.spelling) ≡ items_of l.spelling
