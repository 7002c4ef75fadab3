use Rattle.std.proofs.Common.{◌≡◌, ◌+◌, ◌*◌, ◌≤◌, drop, sum_by}
use Rattle.alog_pattern.specs.Length.{item_len, longest_line}
use Rattle.alog_pattern.specs.Scan.{items_of, items_from}
use Rattle.alog_pattern.proofs.patterns.longest_line.Given as goal

-- the length so far and that of what is left are the whole
abbrev pub invariant-loop-byte : goal.invariant-loop-byte
invariant-loop-byte l = record {
  total : l.longest + sum_by (item_len l.text_limit) (items_from l.scan
      (drop l.byte-index l.spelling)) ≡ longest_line l.text_limit (items_of l.spelling);
  small : l.longest ≤ 1 + 8566 * l.byte-index;
}
