use Rattle.alog_ring.proofs.swap_ring.SwapRing.pop_swap_into.Given as goal

abbrev pub ghosts-pop_round : goal.ghosts-pop_round
ghosts-pop_round g a = record {
  firsts = a.self.now.table.shared.key.firsts.value.items;
  admits = g.L.Limit.admits a.self.now.table.shared.key.limit;
}
