use Rattle.std.proofs.Common.{◌≡◌, ◌∙◌, ℕ, ◌+◌, ◌-◌, ◌≤◌, ◌++◌, All, List, arith, ap, drop, length, length-append, refl, rules, subst, sum_by, sym, take}
use Rattle.std.specs.List.{flat_map}
use Rattle.alog_pattern.specs.Compiled.{Compiled, longest}
use Rattle.alog_pattern.specs.Length.{item_len}
use Rattle.alog_pattern.specs.declared.items.Item.{Item}
use Rattle.alog_format.specs.Buffer.{Buffer, appended}
use Rattle.alog_format.specs.Lasting.{FormatterView}
use Rattle.alog_format.specs.Line.{IsShowable, item_text, line_text, shown_by}
use Rattle.alog_format.specs.Naming.{Remembers}
use Rattle.alog_format.proofs.FirstItems.{all_texts, both_written, first_room, first_texts, front_fits, rest_is}
use Rattle.alog_format.proofs.ItemTexts.{line_written}
use Rattle.alog_format.proofs.formatter.Formatter.format.Goals as goal

pub facts_of-facts-requires : goal.facts_of-facts-requires
facts_of-facts-requires c =
    let shown = c.turn_to.ensures.shown in
    (shown.0, shown.1, ap (λ (v : FormatterView). v.at) c.self.view_is ∙ shown.2)

pub write_behind-requires-clause-room : goal.write_behind-requires-clause-room
write_behind-requires-clause-room c =
    let i = c.self.inside in
    let p = i.pattern in
    let old = c.args.line.now in
    let pattern : p ≡ c.args.self.now.pattern = ap (λ (v : FormatterView). v.pattern) c.self.view_is ∙ c.turn_to.ensures.same in
    let room : length old.bytes + longest p ≤ old.capacity = subst (λ (q : Compiled). length old.bytes + longest q ≤ old.capacity) (sym pattern) c.requires.room in
    rw (c.turn_to.ensures.line, c.items-items.ensures, c.text_limit-text_limit.ensures.value)
    (front_fits p.text_limit p.items i.from (length old.bytes) old.capacity room)

pub write_behind-requires-clause-known : goal.write_behind-requires-clause-known
write_behind-requires-clause-known c =
    let i = c.self.inside in
    let s = shown_by c.facts_of-facts.result in
    let front = take i.from i.pattern.items in
    let texts : i.first.items ≡ flat_map (item_text s) (take i.count front) =
    first_texts s i.civil front i.count i.first.items c.facts_of-facts.ensures.at c.self.invariant.3 in
    c.as_slice.ensures.value ∙ texts ∙ ap (λ (l : List Item). flat_map (item_text s) (take i.count (take i.from l))) (sym c.items-items.ensures)

pub write_named-requires-clause-room : goal.write_named-requires-clause-room
write_named-requires-clause-room c =
    let i = c.self.inside in
    let p = i.pattern in
    let s = shown_by c.facts_of-facts.result in
    let old = c.args.line.now in
    let pattern : p ≡ c.args.self.now.pattern = ap (λ (v : FormatterView). v.pattern) c.self.view_is ∙ c.turn_to.ensures.same in
    let room : length old.bytes + longest p ≤ old.capacity = subst (λ (q : Compiled). length old.bytes + longest q ≤ old.capacity) (sym pattern) c.requires.room in
    let text : length c.args.message.now.text ≤ p.text_limit = subst (λ (q : Compiled). length c.args.message.now.text ≤ q.text_limit) (sym pattern) c.requires.text in
    let showable : IsShowable p.text_limit s = search rules in
    let front : List ℕ = flat_map (item_text s) (take i.from p.items) in
    let fits = first_room showable p.items i.from {bytes = front} (length old.bytes) old.capacity refl (omega (arith, room)) in
    let put : c.write_behind.new.line ≡ appended old front =
    c.write_behind.ensures.written ∙ ap (λ (b : Buffer). appended b (flat_map (item_text s) (take i.from c.items-items.result.now))) c.turn_to.ensures.line
    ∙ ap (λ (l : List Item). appended old (flat_map (item_text s) (take i.from l))) c.items-items.ensures in
    let rest : take (length c.items-items.result.now - i.from) (drop i.from c.items-items.result.now) ≡ drop i.from p.items =
    rest_is c.items-items.result.now i.from ∙ ap (drop i.from) c.items-items.ensures in
    let bytes : length c.write_behind.new.line.bytes ≡ length old.bytes + length front =
    ap (λ (b : Buffer). length b.bytes) put ∙ length-append old.bytes front in
    let capacity : c.write_behind.new.line.capacity ≡ old.capacity = ap (λ (b : Buffer). b.capacity) put in
    let left : sum_by (item_len c.text_limit-text_limit.result) (take (length c.items-items.result.now - i.from) (drop i.from c.items-items.result.now))
    ≡ sum_by (item_len p.text_limit) (drop i.from p.items) =
    ap (sum_by (item_len c.text_limit-text_limit.result)) rest ∙ ap (λ (n : ℕ). sum_by (item_len n) (drop i.from p.items)) c.text_limit-text_limit.ensures.value in
    omega (arith, fits, bytes, capacity, left)

pub write_named-requires-clause-known : goal.write_named-requires-clause-known
write_named-requires-clause-known c =
    let i = c.self.inside in
    let rest : take (length c.items-items.result.now - i.from) (drop i.from c.items-items.result.now) ≡ drop i.from i.pattern.items =
    rest_is c.items-items.result.now i.from ∙ ap (drop i.from) c.items-items.ensures in
    subst (λ (l : List Item). All (Remembers l) i.names) (sym rest) c.self.invariant.4

pub invariant_of-self : goal.invariant_of-self
invariant_of-self c =
    let i = c.self.inside in
    let rest : take (length c.items-items.result.now - i.from) (drop i.from c.items-items.result.now) ≡ drop i.from i.pattern.items =
    rest_is c.items-items.result.now i.from ∙ ap (drop i.from) c.items-items.ensures in
    let named : All (Remembers (drop i.from i.pattern.items)) c.write_named.new.slots =
    subst (λ (l : List Item). All (Remembers l) c.write_named.new.slots) rest c.write_named.ensures.known in
    (c.self.invariant.0, c.self.invariant.1, c.self.invariant.2, c.self.invariant.3, named)

pub returns-clause-line : goal.returns-clause-line
returns-clause-line c =
    let i = c.self.inside in
    let p = i.pattern in
    let s = shown_by c.facts_of-facts.result in
    let old = c.args.line.now in
    let pattern : p ≡ c.args.self.now.pattern = ap (λ (v : FormatterView). v.pattern) c.self.view_is ∙ c.turn_to.ensures.same in
    let front : List ℕ = flat_map (item_text s) (take i.from p.items) in
    let behind : List ℕ = flat_map (item_text s) (drop i.from p.items) in
    let put : c.write_behind.new.line ≡ appended old front =
    c.write_behind.ensures.written ∙ ap (λ (b : Buffer). appended b (flat_map (item_text s) (take i.from c.items-items.result.now))) c.turn_to.ensures.line
    ∙ ap (λ (l : List Item). appended old (flat_map (item_text s) (take i.from l))) c.items-items.ensures in
    let rest : take (length c.items-items.result.now - i.from) (drop i.from c.items-items.result.now) ≡ drop i.from p.items =
    rest_is c.items-items.result.now i.from ∙ ap (drop i.from) c.items-items.ensures in
    let more : c.write_named.new.line ≡ appended c.write_behind.new.line behind =
    c.write_named.ensures.written ∙ ap (λ (l : List Item). appended c.write_behind.new.line (flat_map (item_text s) l)) rest in
    let both : c.write_named.new.line ≡ appended old (front ++ behind) =
    both_written old c.write_behind.new.line c.write_named.new.line front behind put more in
    let all : c.write_named.new.line ≡ appended old (flat_map (item_text s) c.args.self.now.pattern.items) =
    both ∙ ap (appended old) (all_texts s p.items i.from) ∙ ap (λ (q : Compiled). appended old (flat_map (item_text s) q.items)) pattern in (
      line_text s c.args.self.now.pattern.items,
      (s, c.facts_of-facts.ensures.shown, refl),
      line_written old c.write_named.new.line c.put.new.line (flat_map (item_text s) c.args.self.now.pattern.items) all c.put.ensures,
    )
