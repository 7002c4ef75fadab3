use Rattle.alog_hosted.specs.Lent.{IsProducerOf}
use Rattle.test_hosted.proofs.thread_tests.say.Given as goal

abbrev pub invariant-loop : goal.invariant-loop
invariant-loop g l = IsProducerOf l.fn.hosted l.producer
