use Rattle.alog_ring.proofs.board.Board.split.Given as goal

abbrev pub ghosts-cut : goal.ghosts-cut
ghosts-cut g a = record { parts = a.parts }
