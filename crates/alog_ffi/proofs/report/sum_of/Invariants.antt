use Rattle.std.proofs.Common.{◌≡◌, ℕ, take}
use Rattle.alog_hosted.specs.Faults.{capped_sum_by}
use Rattle.alog_ffi.proofs.report.sum_of.Given as goal

abbrev pub invariant-loop-count : goal.invariant-loop-count
invariant-loop-count l = l.sum ≡ capped_sum_by (λ (n : ℕ). n) (take l.count-index l.counts)
