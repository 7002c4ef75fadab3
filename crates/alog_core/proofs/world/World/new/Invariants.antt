use Rattle.std.proofs.Common.{◌≡◌, replicate, vec_capacity}
use Rattle.alog_core.specs.declared.TheConstants.{ACTORS}
use Rattle.alog_core.specs.declared.round.Round.TheVariants as round
use Rattle.alog_core.proofs.world.World.new.Given as goal

abbrev pub invariant-loop : goal.invariant-loop
invariant-loop g l =
    record { items : l.rounds.items ≡ replicate l.counter round.Idle; room : vec_capacity l.rounds ≡ ACTORS }
