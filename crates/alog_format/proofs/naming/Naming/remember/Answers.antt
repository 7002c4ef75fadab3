use Rattle.std.proofs.Common.{◌≡◌, ◌∙◌, false, ℕ, ◌-◌, ◌++◌, List, ap, arith, drop, length, subst, sym, take}
use Rattle.std.specs.List.{flat_map}
use Rattle.alog_format.specs.Line.{item_text, shown_by}
use Rattle.alog_format.specs.Naming.{Remembers}
use Rattle.alog_format.proofs.FirstItems.{behind}
use Rattle.alog_format.proofs.Named.{named_texts}
use Rattle.alog_format.proofs.naming.Naming.remember.Goals as goal
use Rattle.alog_format.proofs.naming.Naming.remember.Goals.{in-Ok, in-Err}

pub returns-clause-known : goal.returns-clause-known
returns-clause-known c =
    let is = c.args.items.now in
    let old = c.args.self.now in
    let count = c.count_named-count.result in
    let s = shown_by c.args.facts.now in
    let With : ℕ → Type 0 = λ n. Remembers is (record old { count = n; text = c.try_extend_from_slice.new.self; is_fresh = false }) in
    elim c.match-try_extend_from_slice.branch [
      | in-Ok w ↦
          let more = take (length c.as_slice.result.now - c.len-start.result) (drop c.len-start.result c.as_slice.result.now) in
          let texts : more ≡ flat_map (item_text s) (take count is) =
          rw (c.len-start.ensures, c.as_slice.ensures)
          (behind c.args.line.now c.write_items.new.line (flat_map (item_text s) (take count is)) c.write_items.ensures.written) in
          let added : c.try_extend_from_slice.new.self.items ≡ c.clear.new.self.items ++ more = w.in-Ok.ensures.ok in
          let named = named_texts s (take count is) c.requires.name c.requires.level c.count_named-count.ensures.all in
          let bytes = added ∙ ap (λ (l : List ℕ). l ++ more) c.clear.ensures ∙ texts ∙ named in
          subst With (sym w.self-is) (c.count_named-count.ensures.within, c.count_named-count.ensures.all, bytes)
      | in-Err w ↦
          subst With (sym w.self-is)
          (omega arith, (λ k d short. absurd (omega arith)), ap (λ v. v.items) w.in-Err.ensures.err ∙ c.clear.ensures)
    ]
