use Rattle.std.proofs.Common.{◌≡◌, ℕ, ◌<◌, ◌≤◌, length, get_or}
use Rattle.alog_format.proofs.names.base.Given as goal

-- no `/` stands from the start on
abbrev pub invariant-loop-start : goal.invariant-loop-start
invariant-loop-start l = record {
  inside : l.start ≤ length l.file;
  passed : (k : ℕ) → l.start ≤ k → k < length l.file → get_or l.file k 0 ≡ 47 → ⊥;
}

abbrev pub decreases-loop-start : goal.decreases-loop-start
decreases-loop-start l = l.start
