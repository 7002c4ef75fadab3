use Rattle.std.proofs.Common.{◌≡◌, ◌+◌, ◌<◌, drop, take, length, sum_by}
use Rattle.std.specs.List.{flat_map}
use Rattle.alog_pattern.specs.Length.{item_len}
use Rattle.alog_format.specs.Buffer.{appended}
use Rattle.alog_format.specs.Line.{shown_by, item_text}
use Rattle.alog_format.proofs.lines.write_items.Given as goal

-- the texts so far are appended, and there is room for what is left
abbrev pub invariant-loop-item : goal.invariant-loop-item
invariant-loop-item l = record {
  written : l.line ≡ appended l.fn.line (flat_map (item_text (shown_by l.facts)) (take l.item-index l.items));
  room : length l.line.bytes + sum_by (item_len l.text_limit) (drop l.item-index l.items) < l.line.capacity;
}
