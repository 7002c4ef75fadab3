use Rattle.alog_pool.proofs.SharedDeeds.{made_own}
use Rattle.alog_pool.proofs.SharedFlushed.{own_flushed}
use Rattle.alog_pool.proofs.sink_seat.SinkSeat.flush_written.Goals as goal

pub returns-then-self-clause-made : goal.returns-then-self-clause-made
returns-then-self-clause-made g c =
    made_own g.S.Store.tells g.S.Store.files g.S.Store.failures _ _ c.serve.ensures.serves

pub returns-then-self-clause-flushed : goal.returns-then-self-clause-flushed
returns-then-self-clause-flushed g c =
    own_flushed g.S.Store.tells g.S.Store.files g.S.Store.failures _ _ _ _ c.serve.ensures.serves
