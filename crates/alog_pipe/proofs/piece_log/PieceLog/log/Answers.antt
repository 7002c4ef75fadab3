use Rattle.std.proofs.lemmas.Int.{to_z-of_z}
use Rattle.alog_pipe.proofs.Logging.{hidden_piece, lost_piece, posted_piece}
use Rattle.alog_pipe.proofs.piece_log.PieceLog.log.Goals as goal

pub returns-in-Posted : goal.returns-in-Posted
returns-in-Posted g c =
    posted_piece (simp (to_z-of_z, c.ranges.time) at c.in-All.ensures.tells) c.tell_hole.ensures.same c.log_found.ensures.same
    (simp (to_z-of_z, c.ranges.time) at c.in-Posted.ensures.found)

pub returns-in-Below : goal.returns-in-Below
returns-in-Below g c =
    hidden_piece (simp (to_z-of_z, c.ranges.time) at c.in-All.ensures.tells) c.tell_hole.ensures.same c.log_found.ensures.same
    (simp (to_z-of_z, c.ranges.time) at c.in-Below.ensures.found) c.count_below.ensures

pub returns-in-Missing : goal.returns-in-Missing
returns-in-Missing g c =
    lost_piece (simp (to_z-of_z, c.ranges.time) at c.in-All.ensures.tells) c.tell_hole.ensures.same c.log_found.ensures.same
    (simp (to_z-of_z, c.ranges.time) at c.in-Missing.ensures.found) c.miss.ensures
