use Rattle.std.proofs.Common.{refl, sym, ap, subst, ◌∙◌}
use Rattle.alog_pipe.proofs.Logging.{same_as, same_on, tries_logger}
use Rattle.alog_pipe.proofs.Pumping.{at_end, logs_logger, not_at_end, nothing_came, rested_on, some_came, starts, takes_same}
use Rattle.alog_lines.specs.Cutting.{Cutting}
use Rattle.alog_pipe.specs.declared.piece_log.PieceLog.{PieceLog}
use Rattle.alog_pool.specs.Producer.{IsSame}
use Rattle.alog_pipe.proofs.pump.Pump.run.Goals as goal

pub loop-init : goal.loop-init
loop-init g c = record {
  pumped = starts _ _ c.args.self.now refl c.requires.fresh.0 c.requires.fresh.1;
  reading = c.requires.fresh.1;
  logger = refl;
  same = same_as _;
}

pub loop-preserved-in-Ok-Nothing : goal.loop-preserved-in-Ok-Nothing
loop-preserved-in-Ok-Nothing g c =
    let i = c.loop.invariant in
    let brings = rw c.in-Ok-Nothing.field-0-is at c.in-Ok-Nothing.ensures.brings in
    let log = c.fill.ensures.same.0 in
    record {
      pumped = nothing_came i.pumped c.fill.new.self c.fill.ensures.read i.reading c.fill.ensures.same brings.0 brings.1;
      reading = brings.1;
      logger = ap (λ (l : PieceLog). l.logger) log ∙ i.logger;
      same = subst (λ (l : PieceLog). IsSame c.args.self.now.log.producer l.producer) (sym log) i.same;
    }

pub loop-preserved-in-Ok-Bytes : goal.loop-preserved-in-Ok-Bytes
loop-preserved-in-Ok-Bytes g c =
    let i = c.loop.invariant in
    let brings = rw c.in-Ok-Bytes.field-0-is at c.in-Ok-Bytes.ensures.brings in
    let log = c.fill.ensures.same.0 in
    let p = c.log_read.ensures.pumps in
    record {
      pumped = some_came i.pumped c.fill.new.self c.fill.ensures.read i.reading c.fill.ensures.same p;
      reading = (takes_same p.pieces _ _ p.taken).1 ∙ brings.1;
      logger = logs_logger _ p.pieces _ _ p.logged ∙ ap (λ (l : PieceLog). l.logger) log ∙ i.logger;
      same = same_on (subst (λ (l : PieceLog). IsSame c.args.self.now.log.producer l.producer) (sym log) i.same) c.log_read.ensures.same;
    }

pub loop-preserved : goal.loop-preserved
loop-preserved g c =
    let i = c.loop.invariant in
    let log = c.fill.ensures.same.0 in
    let came = nothing_came i.pumped c.fill.new.self c.fill.ensures.read i.reading c.fill.ensures.same c.in-Err.ensures.err.0 c.in-Err.ensures.err.1 in
    record {
      pumped = rested_on _ came c.rest.ensures.tries c.rest.ensures.kept;
      reading = ap (λ (s : Cutting). s.ended) c.rest.ensures.kept.0 ∙ c.in-Err.ensures.err.1;
      logger = tries_logger c.rest.ensures.tries ∙ ap (λ (l : PieceLog). l.logger) log ∙ i.logger;
      same = same_on (subst (λ (l : PieceLog). IsSame c.args.self.now.log.producer l.producer) (sym log) i.same) c.rest.ensures.same;
    }

pub returns-in-Ok-End-clause-pumps : goal.returns-in-Ok-End-clause-pumps
returns-in-Ok-End-clause-pumps g c =
    let i = c.loop.invariant in
    let brings = rw c.in-Ok-End.field-0-is at c.in-Ok-End.ensures.brings in
    let p = c.log_read-in-Ok-End.ensures.pumps in
    at_end (some_came i.pumped c.fill.new.self c.fill.ensures.read i.reading c.fill.ensures.same p) ((takes_same p.pieces _ _ p.taken).1 ∙ brings.1)
    (c.fill.ensures.read.end i.reading brings.1)

pub returns-then-ne-clause-pumps : goal.returns-then-ne-clause-pumps
returns-then-ne-clause-pumps g c =
    let i = c.loop.invariant in
    not_at_end (nothing_came i.pumped c.fill.new.self c.fill.ensures.read i.reading c.fill.ensures.same c.in-Err.ensures.err.0 c.in-Err.ensures.err.1)
