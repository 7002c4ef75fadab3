use Rattle.test_pool.proofs.thread_tests.talk.Goals as goal

pub invariant_of-result : goal.invariant_of-result
invariant_of-result g c = c.talk_all.ensures c.trial.inside.pool.shared c.trial.invariant
