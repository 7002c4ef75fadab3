use Rattle.std.specs.Prelude.{IfSome}
use Rattle.alog_ring.proofs.ring.Ring.push_round.Given as goal

abbrev pub ghosts-push_round : goal.ghosts-push_round
ghosts-push_round g a = record {
  firsts = a.self.now.table.shared.key.firsts.value.items;
  admits = λ place. IfSome place (g.L.Limit.admits a.self.now.table.shared.key.limit.limit);
}
