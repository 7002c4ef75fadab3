use Rattle.alog_format.specs.Text.{bracketed}
use Rattle.alog_format.proofs.Clips.{then_written}
use Rattle.alog_format.proofs.flag_texts.write_stamp_part.Goals as goal

pub returns-clause-written : goal.returns-clause-written
unfolding bracketed
returns-clause-written c =
    then_written c.args.line.now c.write_stamp.new.line c.write-2.new.line c.args.end _ _
    (then_written c.args.line.now c.write.new.line c.write_stamp.new.line c.args.end _ _ c.write.ensures.written
    c.write_stamp.ensures.written)
    c.write-2.ensures.written
