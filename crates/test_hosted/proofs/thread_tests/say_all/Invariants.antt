use Rattle.alog_hosted.specs.Lent.{IsProducerOf}
use Rattle.test_hosted.proofs.thread_tests.say_all.Given as goal

abbrev pub invariant-loop-number : goal.invariant-loop-number
invariant-loop-number g l = IsProducerOf l.fn.hosted l.producer
