use Rattle.std.proofs.Common.{◌≡◌}
use Rattle.alog_lane.proofs.lane.Lane.turn.Given as goal

abbrev pub invariant-loop : goal.invariant-loop
invariant-loop g l = (l.seat ≡ l.initial.seat) × (l.scratch ≡ l.initial.scratch)
