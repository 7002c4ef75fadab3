use Rattle.alog_lane.proofs.lane.Lane.split.Given as goal

abbrev pub ghosts-cut : goal.ghosts-cut
ghosts-cut g a = record { parts = a.parts }
