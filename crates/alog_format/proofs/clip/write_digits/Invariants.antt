use Rattle.std.proofs.Common.{◌≡◌, ◌-◌, ◌≤◌, ◌++◌, length, take, drop}
use Rattle.alog_format.specs.Text.{digits}
use Rattle.alog_format.proofs.clip.write_digits.Given as goal

-- the digits still to be written, and those that are
abbrev pub invariant-loop-left : goal.invariant-loop-left
invariant-loop-left l = record {
  room : length l.text ≡ 9;
  less : l.left ≤ l.count;
  digits : digits l.left l.rest ++ take (l.count - l.left) (drop l.left l.text) ≡ digits l.count l.number;
}

abbrev pub decreases-loop-left : goal.decreases-loop-left
decreases-loop-left l = l.left
