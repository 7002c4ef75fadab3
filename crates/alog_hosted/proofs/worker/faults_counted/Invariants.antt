use Rattle.std.specs.Prelude.{◌≡◌, take}
use Rattle.alog_hosted.specs.Faults.{capped_sum_by}
use Rattle.alog_hosted.proofs.worker.faults_counted.Given as goal

abbrev pub invariant-loop-place : goal.invariant-loop-place
invariant-loop-place g l = l.sum ≡ capped_sum_by (λ p. p.faults) (take l.place-index l.places)
