use Rattle.alog_hosted.specs.Lent.{IsProducerOf}
use Rattle.alog_hosted.specs.Workers.{IsWorkerOf}
use Rattle.example_host.proofs.say_all.Given as goal

abbrev pub invariant-loop-number : goal.invariant-loop-number
invariant-loop-number l = record { producer : IsProducerOf l.hosted l.producer; worker : IsWorkerOf l.hosted l.worker }
