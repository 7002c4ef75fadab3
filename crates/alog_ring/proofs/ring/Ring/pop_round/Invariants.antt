use Rattle.std.specs.Prelude.{IfSome, []}
use Rattle.alog_ring.proofs.ring.Ring.pop_round.Given as goal

abbrev pub ghosts-pop_round : goal.ghosts-pop_round
ghosts-pop_round g a = record { firsts = []; admits = λ place. IfSome place (g.L.Limit.admits a.self.now.table.shared.key.limit.limit) }
