use Rattle.std.proofs.Common.{◌≡◌, take}
use Rattle.alog_msg.proofs.same.are_same.Given as goal

abbrev pub invariant-loop-at : goal.invariant-loop-at
invariant-loop-at l = take l.at l.these ≡ take l.at l.those
