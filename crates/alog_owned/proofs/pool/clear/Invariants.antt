use Rattle.std.specs.List.{AllByRecursion}
use Rattle.alog_hosted.specs.Lent.{IsProducerOf}
use Rattle.alog_hosted.specs.Workers.{IsWorkerOf}
use Rattle.alog_owned.specs.Desk.{IsPassAt}
use Rattle.alog_owned.proofs.pool.clear.Given as goal

abbrev pub invariant-loop : goal.invariant-loop
invariant-loop g l = record {
  pass : IsPassAt l.fn.common.desk l.fn.common.hosted l.pass;
  producers : AllByRecursion (IsProducerOf l.fn.common.hosted) l.producers.items;
  workers : AllByRecursion (IsWorkerOf l.fn.common.hosted) l.workers.items;
}
