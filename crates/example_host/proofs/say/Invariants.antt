use Rattle.alog_hosted.specs.Lent.{IsProducerOf}
use Rattle.alog_hosted.specs.Workers.{IsWorkerOf}
use Rattle.example_host.proofs.say.Given as goal

abbrev pub invariant-loop : goal.invariant-loop
invariant-loop l = record { producer : IsProducerOf l.hosted l.producer; worker : IsWorkerOf l.hosted l.worker }
