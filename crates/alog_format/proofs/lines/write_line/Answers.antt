use Rattle.std.proofs.Common.{◌≡◌, refl}
use Rattle.std.specs.List.{flat_map}
use Rattle.alog_pattern.specs.declared.items.Item.{Item}
use Rattle.std.proofs.Common.{List}
use Rattle.alog_format.specs.Buffer.{appended}
use Rattle.alog_format.specs.Line.{shown_by, item_text, line_text}
use Rattle.alog_format.proofs.ItemTexts.{line_written}
use Rattle.alog_format.proofs.lines.write_line.Goals as goal

pub returns : goal.returns
returns c =
    let s = shown_by c.facts_of-facts.result in
    let items : List Item = c.args.pattern.now.items in
    let written : c.write_items.new.line ≡ appended c.args.line.now (flat_map
    (item_text s) items) = rw (← c.items.ensures) c.write_items.ensures.written in (
      line_text s items,
      (s, c.facts_of-facts.ensures.shown, refl),
      line_written c.args.line.now c.write_items.new.line c.put.new.line (flat_map (item_text s) items) written c.put.ensures,
    )
