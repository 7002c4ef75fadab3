use Rattle.std.proofs.Common.{◌≡◌, replicate, vec_capacity}
use Rattle.alog_core.specs.declared.TheConstants.{ACTORS}
use Rattle.alog_system.specs.declared.duty.Duty.TheVariants.{Free}
use Rattle.alog_system.proofs.system.free_duties.Given as goal

abbrev pub invariant-loop : goal.invariant-loop
invariant-loop l = record { items : l.duties.items ≡ replicate l.counter Free; room : vec_capacity l.duties ≡ ACTORS }
