use Rattle.alog_hosted.specs.Workers.{IsWorkerOf}
use Rattle.test_hosted.proofs.thread_tests.write_all.Given as goal

abbrev pub invariant-loop : goal.invariant-loop
invariant-loop g l = IsWorkerOf l.fn.hosted l.worker
