use Rattle.alog_format.specs.Text.{flag_text}
use Rattle.alog_format.specs.Line.{shown_by}
use Rattle.alog_format.proofs.PaddedTexts.{whole_end, whole_is}
use Rattle.alog_format.proofs.lines.write_whole.Goals as goal

pub write_flag-requires : goal.write_flag-requires
write_flag-requires c = whole_end c.args.line.now c.capacity-end.result c.capacity-end.ensures.bytes_within c.capacity-end.ensures.value

pub returns : goal.returns
returns c =
    whole_is c.args.line.now c.write_flag.new.line (flag_text
    (shown_by c.args.facts.now) c.args.flag) c.capacity-end.result c.requires c.capacity-end.ensures.value
    c.write_flag.ensures.written
