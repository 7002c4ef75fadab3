use Rattle.std.proofs.Common.{suc, ap, ◌∙◌}
use Rattle.alog_pipe.proofs.Logging.{same_on}
use Rattle.alog_pipe.specs.declared.piece_log.PieceLog.{PieceLog}
use Rattle.alog_pipe.proofs.piece_log.PieceLog.finish.Goals as goal

pub loop-preserved : goal.loop-preserved
loop-preserved g c =
    let i = c.loop.invariant in
    let told = c.in-NoRoom.ensures.tells in
    record {
      tries = suc i.tries;
      naps = (c.loop.self, i.naps, told);
      logger = ap (λ (l : PieceLog). l.logger) told.2 ∙ i.logger;
      same = same_on i.same c.tell_hole.ensures.same;
    }
