use Rattle.alog_pool.specs.Working.{HasTurned, IsAtWork}
use Rattle.alog_pool.proofs.worker.Worker.work.Given as goal

abbrev pub invariant-loop : goal.invariant-loop
invariant-loop g l = record {
  at_work : IsAtWork l.initial.worker l.worker;
  turns : HasTurned l.initial.worker l.worker;
}
