use Rattle.std.proofs.Common.{◌≡◌, string_eq, sym, ap, ◌∙◌, subst}
use Rattle.std.specs.List.{IsDistinct}
use Rattle.std.specs.Map.{keys_of}
use Rattle.alog_sink.specs.Listed.{IsAt}
use Rattle.alog_sink.proofs.Placed.{found_at, is_at}
use Rattle.alog_sink.proofs.sorted_files.SortedFiles.place_of.Goals.{in-Some+else-are_same, in_default}
use Rattle.alog_sink.proofs.sorted_files.SortedFiles.place_of.Goals as goal

pub returns-clause-place : goal.returns-clause-place
returns-clause-place c =
    let same : c.match-get_index.self-inside.map ≡ c.self.inside.map = elim c.match-get_index.branch [
      | in-Some+else-are_same w ↦ ap (λ s. s.map) w.self-inside-is
      | in_default w ↦ ap (λ s. s.map) w.self-inside-is
    ] in
    let is = ap (λ m. m.entries) same ∙ c.self.view_is in
    subst (λ es. IsAt es c.in_ok-at.at c.args.name.now) is
    (found_at c.match-get_index.self-inside.map.entries c.in_ok-at.at c.args.name.now
    (subst (λ m. IsDistinct string_eq (keys_of m.entries)) (sym same) c.self.invariant.1) c.in_ok-at.ensures.within
    (sym c.in_ok-at.ensures.index))

pub returns-then-are_same-clause-place : goal.returns-then-are_same-clause-place
returns-then-are_same-clause-place c =
    let named = sym c.as_bytes.ensures.value ∙ c.are_same.ensures.0 c.if-are_same.true ∙ c.as_bytes-in-Some.ensures.value in
    subst (λ es. IsAt es c.self.inside.last c.args.name.now) c.self.view_is
    (is_at c.self.inside.map.entries c.self.inside.last c.args.name.now c.self.invariant.1 c.in-Some.key.now c.in-Some.field-0-1.now
    (sym c.in-Some.ensures.entry) named)
