use Rattle.std.proofs.Common.{◌≡◌, ◌∙◌, ℕ, ◌+◌, ◌++◌, List, arith, ap, drop, length, length-append, sum_by}
use Rattle.std.specs.List.{flat_map}
use Rattle.alog_pattern.specs.Length.{item_len}
use Rattle.alog_pattern.specs.declared.items.Item.{Item}
use Rattle.alog_format.specs.Buffer.{Buffer, appended}
use Rattle.alog_format.specs.Line.{item_text, shown_by}
use Rattle.alog_format.proofs.FirstItems.{all_texts, both_written, first_room, rest_is}
use Rattle.alog_format.proofs.lines.write_behind.Goals as goal

pub put_some-requires : goal.put_some-requires
put_some-requires c =
    let old = c.args.line.now in
    let fits = first_room c.requires.showable c.args.items.now c.args.count (length old.bytes) old.capacity c.requires.known c.requires.room in
    omega (arith, fits)

pub write_some-requires-clause-room : goal.write_some-requires-clause-room
write_some-requires-clause-room c =
    let old = c.args.line.now in
    let is = c.args.items.now in
    let fits = first_room c.requires.showable is c.args.count (length old.bytes) old.capacity c.requires.known c.requires.room in
    let bytes : length c.put_some.new.line.bytes ≡ length old.bytes + length c.args.known.now =
    ap (λ (b : Buffer). length b.bytes) c.put_some.ensures ∙ length-append old.bytes c.args.known.now in
    let capacity : c.put_some.new.line.capacity ≡ old.capacity = ap (λ (b : Buffer). b.capacity) c.put_some.ensures in
    let left = ap (sum_by (item_len c.args.text_limit)) (rest_is is c.args.count) in
    omega (arith, fits, bytes, capacity, left)

pub returns-clause-written : goal.returns-clause-written
returns-clause-written c =
    let s = shown_by c.args.facts.now in
    let old = c.args.line.now in
    let is = c.args.items.now in
    let behind : List ℕ = flat_map (item_text s) (drop c.args.count is) in
    let more : c.write_some.new.line ≡ appended c.put_some.new.line behind =
    c.write_some.ensures.written ∙ ap (λ (l : List Item). appended c.put_some.new.line (flat_map (item_text s) l)) (rest_is is c.args.count) in
    let joined : c.args.known.now ++ behind ≡ flat_map (item_text s) is =
    ap (λ (l : List ℕ). l ++ behind) c.requires.known ∙ all_texts s is c.args.count in
    both_written old c.put_some.new.line c.write_some.new.line c.args.known.now behind c.put_some.ensures more ∙ ap (appended old) joined
