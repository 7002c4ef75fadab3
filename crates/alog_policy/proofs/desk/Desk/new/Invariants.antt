use Rattle.std.proofs.Common.{◌≡◌, None, replicate, vec_capacity}
use Rattle.alog_core.specs.declared.TheConstants.{ACTORS}
use Rattle.alog_policy.proofs.desk.Desk.new.Given as goal

abbrev pub invariant-loop : goal.invariant-loop
invariant-loop g l =
    record { items : l.posts.items ≡ replicate l.counter None; room : vec_capacity l.posts ≡ ACTORS }
