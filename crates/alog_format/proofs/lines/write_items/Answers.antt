use Rattle.std.proofs.Common.{length}
use Rattle.alog_pattern.specs.declared.items.Item.TheVariants.{Byte}
use Rattle.alog_format.specs.Line.{shown_by}
use Rattle.alog_format.proofs.ItemTexts.{item_fits, rest_fits, texts_written}
use Rattle.alog_format.proofs.lines.write_items.Goals as goal

pub write_item-requires : goal.write_item-requires
write_item-requires c =
    item_fits c.args.text_limit (shown_by c.args.facts.now) c.requires.showable c.args.items.now c.loop-item.item-index (Byte 0)
    c.loop-item-test.true
    (length c.loop-item.line.bytes) c.loop-item.line.capacity c.loop-item.invariant.room

pub loop-item-preserved : goal.loop-item-preserved
loop-item-preserved c = record {
  written = texts_written c.args.text_limit (shown_by c.args.facts.now) c.requires.showable c.args.items.now c.loop-item.item-index
      (Byte 0) c.loop-item-test.true
      c.args.line.now c.loop-item.line c.write_item.new.line c.loop-item.invariant.written c.write_item.ensures;
  room = rest_fits c.args.text_limit (shown_by c.args.facts.now) c.requires.showable c.args.items.now c.loop-item.item-index
      (Byte 0) c.loop-item-test.true
      c.loop-item.line c.write_item.new.line c.write_item.ensures c.loop-item.invariant.room;
}
