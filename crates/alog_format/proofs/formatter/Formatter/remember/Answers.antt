use Rattle.std.proofs.Common.{◌≡◌, ℕ, ◌+◌, ◌-◌, ◌≤◌, List, ◌++◌, arith, drop, take, ap, subst, sym, ◌∙◌, length}
use Rattle.std.specs.List.{flat_map}
use Rattle.alog_pattern.specs.declared.items.Item.{Item}
use Rattle.alog_format.specs.Buffer.{appended}
use Rattle.alog_format.specs.Line.{item_text, shown_by}
use Rattle.alog_pattern.specs.Compiled.{longest}
use Rattle.alog_format.specs.Lasting.{AreFirst, FormatterView}
use Rattle.alog_format.proofs.FirstItems.{Last, are_first, behind, first_fit}
use Rattle.alog_format.proofs.formatter.Formatter.remember.Goals as goal
use Rattle.alog_format.proofs.formatter.Formatter.remember.Goals.{in-Ok, in-Err}

pub facts_of-facts-requires : goal.facts_of-facts-requires
facts_of-facts-requires c =
    let shown = c.requires.shown in
    (shown.0, shown.1, ap (λ (v : FormatterView). v.at) c.self.view_is ∙ shown.2)

pub write_items-requires-clause-room : goal.write_items-requires-clause-room
write_items-requires-clause-room c =
    let p = c.self.inside.pattern in
    let room : length c.args.line.now.bytes + longest p ≤ c.args.line.now.capacity =
    subst (λ (v : FormatterView). length c.args.line.now.bytes + longest v.pattern ≤ c.args.line.now.capacity) (sym c.self.view_is) c.requires.room in
    rw (c.items.ensures, c.text_limit.ensures.value)
    (first_fit p.text_limit p.items c.count_lasting-count.result c.self.inside.from (length c.args.line.now.bytes) c.args.line.now.capacity room)

pub invariant_of-self : goal.invariant_of-self
invariant_of-self c =
    let i = c.self.inside in
    let is = take i.from i.pattern.items in
    let count = c.count_lasting-count.result in
    let s = shown_by c.facts_of-facts.result in
    let within : count ≤ length is = subst (λ (l : List Item). count ≤ length (take i.from l)) c.items.ensures c.count_lasting-count.ensures.within in
    let last : Last (take count is) = subst (λ (l : List Item). Last (take count (take i.from l))) c.items.ensures c.count_lasting-count.ensures.all in
    let written : c.write_items.new.line ≡ appended c.args.line.now (flat_map (item_text s) (take count is)) =
    subst (λ (l : List Item). c.write_items.new.line ≡ appended c.args.line.now (flat_map (item_text s) (take count (take i.from l))))
    c.items.ensures c.write_items.ensures.written in (
      c.self.invariant.0,
      c.self.invariant.1,
      c.self.invariant.2,
      elim c.match-try_extend_from_slice.branch [
        | in-Ok w ↦
            let more = take (length c.as_slice.result.now - c.len-start.result) (drop c.len-start.result c.as_slice.result.now) in
            let texts : more ≡ flat_map (item_text s) (take count is) =
            rw (c.len-start.ensures, c.as_slice.ensures)
            (behind c.args.line.now c.write_items.new.line (flat_map (item_text s) (take count is)) written) in
            let added = w.in-Ok.ensures.ok in
            let bytes : c.try_extend_from_slice.new.self.items ≡ flat_map (item_text s) (take count is) =
            added ∙ (ap (λ (l : List ℕ). l ++ more) c.clear.ensures ∙ texts) in
            subst (λ (n : ℕ). AreFirst is i.civil n c.try_extend_from_slice.new.self.items) (sym w.self-is)
            (are_first s is count c.facts_of-facts.ensures.at within last bytes)
        | in-Err w ↦
            subst (λ (n : ℕ). AreFirst is i.civil n c.try_extend_from_slice.new.self.items) (sym w.self-is)
            (omega arith, (λ k d short. absurd (omega arith)), ap (λ v. v.items) w.in-Err.ensures.err ∙ c.clear.ensures)
      ],
      c.self.invariant.4,
    )
