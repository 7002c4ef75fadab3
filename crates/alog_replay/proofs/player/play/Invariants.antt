use Rattle.std.proofs.Common.{◌+◌, ◌*◌, ◌≤◌}
use Rattle.alog_replay.specs.LineState.{rest_of, work_left}
use Rattle.alog_replay.specs.declared.limits.TheConstants.{CHUNK, READS_MAX}
use Rattle.alog_replay.proofs.Telling.{HasTold, point}
use Rattle.alog_replay.proofs.player.play.Given as goal

abbrev pub invariant-lines : goal.invariant-lines
invariant-lines g l = record {
  few : l.count + work_left l.lines ≤ (CHUNK + 1) * READS_MAX;
  told : HasTold g.S.Playable.scene (point (g.R.Read.remaining l.fn.reader) l.fn.stage 0 (g.W.Write.contents l.fn.writer))
      (point (rest_of l.lines (g.R.Read.remaining l.reader)) l.stage l.count (g.W.Write.contents l.writer));
}

abbrev pub decreases-lines : goal.decreases-lines
decreases-lines g l = work_left l.lines
