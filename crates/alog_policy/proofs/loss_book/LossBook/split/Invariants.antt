use Rattle.alog_policy.proofs.loss_book.LossBook.split.Given as goal

abbrev pub ghosts-cut : goal.ghosts-cut
ghosts-cut a = record { parts = a.parts }
