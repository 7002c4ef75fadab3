use Rattle.std.proofs.Common.{◌≡◌, ℕ}
use Rattle.alog_pipe.specs.Piped.{Naps}
use Rattle.alog_pipe.proofs.piece_log.PieceLog.finish.Given as goal
use Rattle.alog_pool.specs.Producer.{IsSame}

-- there was no room so far
abbrev pub invariant-loop : goal.invariant-loop
invariant-loop g l = record {
  tries : ℕ;
  naps : Naps tries l.fn.time l.fn.self l.self;
  logger : l.self.logger ≡ l.fn.self.logger;
  same : IsSame l.fn.self.producer l.self.producer;
}
