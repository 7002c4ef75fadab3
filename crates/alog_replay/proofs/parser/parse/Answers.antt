use Rattle.std.proofs.Common.{refl}
use Rattle.alog_replay.specs.Command.{row_named}
use Rattle.alog_replay.proofs.EntryLemmas.{by_found, by_no_row, no_row}
use Rattle.alog_replay.proofs.parser.parse.Goals as goal

pub returns-in-ring : goal.returns-in-ring
unfolding row_named
returns-in-ring c = by_found _ _ c.cut.ensures c.in-ring.is refl c.ring.ensures

pub returns-in-push : goal.returns-in-push
unfolding row_named
returns-in-push c = by_found _ _ c.cut.ensures c.in-push.is refl c.push.ensures

pub returns-in-pop : goal.returns-in-pop
unfolding row_named
returns-in-pop c = by_found _ _ c.cut.ensures c.in-pop.is refl c.pop.ensures

pub returns-in-work : goal.returns-in-work
unfolding row_named
returns-in-work c = by_found _ _ c.cut.ensures c.in-work.is refl c.work.ensures

pub returns-in-post : goal.returns-in-post
unfolding row_named
returns-in-post c = by_found _ _ c.cut.ensures c.in-post.is refl c.post.ensures

pub returns-in-log : goal.returns-in-log
unfolding row_named
returns-in-log c = by_found _ _ c.cut.ensures c.in-log.is refl c.log.ensures

pub returns-in-flush : goal.returns-in-flush
unfolding row_named
returns-in-flush c = by_found _ _ c.cut.ensures c.in-flush.is refl c.flush.ensures

pub returns-in-dump : goal.returns-in-dump
unfolding row_named
returns-in-dump c = by_found _ _ c.cut.ensures c.in-dump.is refl c.dump.ensures

pub returns-in-level : goal.returns-in-level
unfolding row_named
returns-in-level c = by_found _ _ c.cut.ensures c.in-level.is refl c.level.ensures

pub returns-in-cells : goal.returns-in-cells
unfolding row_named
returns-in-cells c = by_found _ _ c.cut.ensures c.in-cells.is refl c.alone.ensures

pub returns-in-counts : goal.returns-in-counts
unfolding row_named
returns-in-counts c = by_found _ _ c.cut.ensures c.in-counts.is refl c.alone-in-counts.ensures

pub returns-in-step : goal.returns-in-step
unfolding row_named
returns-in-step c = by_found _ _ c.cut.ensures c.in-step.is refl c.step.ensures

pub returns-in-run : goal.returns-in-run
unfolding row_named
returns-in-run c = by_found _ _ c.cut.ensures c.in-run.is refl c.run.ensures

pub returns-in_default : goal.returns-in_default
returns-in_default c =
    let d = c.in_default in
    by_no_row _ _ _ c.cut.ensures refl
    (no_row _ _ (d.not-ring, (d.not-push, (d.not-pop, (d.not-work, (d.not-post, (d.not-log, (d.not-flush, (d.not-dump, (d.not-level, (d.not-cells, (d.not-counts, (d.not-step, (d.not-run, tt))))))))))))))
