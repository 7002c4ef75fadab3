use Rattle.std.proofs.Common.{◌≡◌, List, length}
use Rattle.alog_lines.specs.Pieces.{Piece}
use Rattle.alog_pipe.specs.Counted.{counted}
use Rattle.alog_pipe.specs.Piped.{LogsAt, TakesAll}
use Rattle.alog_pipe.proofs.pump.Pump.log_read.Given as goal
use Rattle.alog_pool.specs.Producer.{IsSame}

-- the pieces so far
abbrev pub invariant-loop-cut : goal.invariant-loop-cut
invariant-loop-cut g l = record {
  pieces : List Piece;
  taken : TakesAll pieces l.fn.self.lines l.self.lines;
  logged : LogsAt l.self.time pieces l.fn.self.log l.self.log;
  counted_is : l.self.counts ≡ counted pieces l.fn.self.counts;
  logger : l.self.log.logger ≡ l.fn.self.log.logger;
  same : IsSame l.fn.self.log.producer l.self.log.producer;
}

abbrev pub decreases-loop-cut : goal.decreases-loop-cut
decreases-loop-cut g l = length l.self.lines.pending
