use Rattle.alog_format.specs.Text.{flag_text}
use Rattle.alog_format.specs.Line.{shown_by}
use Rattle.alog_format.proofs.PaddedTexts.{has_end, is_kept, kept_fits, kept_behind, padded_is}
use Rattle.alog_format.proofs.pads.write_padded.Goals as goal

pub write_flag-requires : goal.write_flag-requires
write_flag-requires c = rw c.end_of-end.ensures (has_end c.args.line.now c.args.padding
    (flag_text (shown_by c.args.facts.now) c.args.flag) c.requires)

pub pad-requires-clause-start : goal.pad-requires-clause-start
pad-requires-clause-start c =
    let text = flag_text (shown_by c.args.facts.now) c.args.flag in
    let new = c.write_flag.new.line in
    let w = is_kept c.args.line.now new c.args.padding text c.end_of-end.result c.requires c.end_of-end.ensures
    c.write_flag.ensures.written in
    kept_behind c.args.line.now new c.args.padding text c.len-start.result c.len-start.ensures w

pub pad-requires-clause-fits : goal.pad-requires-clause-fits
pad-requires-clause-fits c =
    let text = flag_text (shown_by c.args.facts.now) c.args.flag in
    let new = c.write_flag.new.line in
    let w = is_kept c.args.line.now new c.args.padding text c.end_of-end.result c.requires c.end_of-end.ensures
    c.write_flag.ensures.written in
    kept_fits c.args.line.now c.args.padding text c.requires c.len-start.ensures c.from.ensures w

pub returns : goal.returns
returns c =
    let text = flag_text (shown_by c.args.facts.now) c.args.flag in
    let new = c.write_flag.new.line in
    let w = is_kept c.args.line.now new c.args.padding text c.end_of-end.result c.requires c.end_of-end.ensures
    c.write_flag.ensures.written in
    padded_is c.args.line.now c.args.padding text c.len-start.ensures c.from.ensures w c.pad.ensures
