use Rattle.alog_core.specs.World.{round_of}
use Rattle.alog_policy.proofs.SharedStepKinds.{steps_left}
use Rattle.alog_policy.proofs.SharedMaking.{InPop, RoundSoFar}
use Rattle.alog_policy.proofs.rounds.pop_round.Given as goal

abbrev pub invariant-loop-said : goal.invariant-loop-said
invariant-loop-said g l = RoundSoFar InPop l.fn.actor l.fn.world l.world

abbrev pub decreases-loop-said : goal.decreases-loop-said
decreases-loop-said g l = steps_left (round_of l.world l.fn.actor)
