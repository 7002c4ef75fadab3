use Rattle.alog_pool.proofs.Halting.{did_more}
use Rattle.alog_pool.proofs.SharedMoves.{moved_more, not_moved}
use Rattle.alog_pool.proofs.stops.post_stop.Goals as goal

pub loop-init : goal.loop-init
loop-init g c = (c.requires.ring, c.requires.hand, not_moved _ c.requires.faithful)

pub returns-in-Some-try_stop-clause-did : goal.returns-in-Some-try_stop-clause-did
returns-in-Some-try_stop-clause-did g c = did_more _ _ _ c.in-Some-try_stop.posted c.loop.invariant.2 c.in-Some-try_stop.ensures.tried

pub loop-preserved : goal.loop-preserved
loop-preserved g c = (
  c.try_stop.ensures.ring,
  c.try_stop.ensures.hand,
  moved_more c.loop.invariant.2 c.in_default.ensures.tried,
)
