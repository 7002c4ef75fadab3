use Rattle.alog_ring.proofs.swap_ring.SwapRing.push_swap_from.Given as goal

abbrev pub ghosts-push_round : goal.ghosts-push_round
ghosts-push_round g a = record {
  firsts = a.self.now.table.shared.key.firsts.value.items;
  admits = g.L.Limit.admits a.self.now.table.shared.key.limit;
}
