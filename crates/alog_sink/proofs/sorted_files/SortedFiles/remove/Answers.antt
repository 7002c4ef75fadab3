use Rattle.std.proofs.Common.{◌≡◌, IsSorted, option_map, string_cmp, ap, sym, ◌∙◌, subst}
use Rattle.std.specs.Map.{keys_of}
use Rattle.alog_sink.specs.Files.{AreSame, removed}
use Rattle.alog_sink.specs.Listed.{files_in, IsAt}
use Rattle.alog_sink.proofs.Placed.{is_within, removed_at, sorted_removed}
use Rattle.alog_sink.proofs.sorted_files.SortedFiles.remove.Goals as goal

pub invariant_of-self-2 : goal.invariant_of-self-2
invariant_of-self-2 c =
    let kept : c.args.self.now ≡ c.self.inside.map.entries = sym (c.self.view_is ∙ c.place_of.ensures.kept) in
    let here = subst (λ es. IsAt es c.in_ok-at.at c.args.name.now) kept c.in_ok-at.ensures.place in (
      subst (λ es. IsSorted string_cmp (keys_of es)) (sym c.shift_remove_index.ensures.entries)
          (sorted_removed c.self.inside.map.entries c.in_ok-at.at (is_within c.self.inside.map.entries c.in_ok-at.at c.args.name.now here) c.self.invariant.0),
      c.shift_remove_index.ensures.unique,
    )

pub returns-clause-gone : goal.returns-clause-gone
returns-clause-gone c =
    let kept : c.args.self.now ≡ c.self.inside.map.entries = sym (c.self.view_is ∙ c.place_of.ensures.kept) in
    let here = subst (λ es. IsAt es c.in_ok-at.at c.args.name.now) kept c.in_ok-at.ensures.place in
    subst (λ es. AreSame (removed c.args.name.now (files_in es)) (files_in c.shift_remove_index.new.self.entries)) (sym kept)
    (removed_at c.self.inside.map c.in_ok-at.at c.args.name.now here c.shift_remove_index.new.self (c.in_ok-file.field-0-0, c.in_ok-file.file)
    (sym c.in_ok-file.was ∙ c.shift_remove_index.ensures.entry) c.in_ok-file.ensures.updates)

pub returns-clause-file : goal.returns-clause-file
returns-clause-file c =
    let kept : c.args.self.now ≡ c.self.inside.map.entries = sym (c.self.view_is ∙ c.place_of.ensures.kept) in
    let here = subst (λ es. IsAt es c.in_ok-at.at c.args.name.now) kept c.in_ok-at.ensures.place in
    ap (λ o. option_map (λ e. e.1.items) o) (sym c.in_ok-file.was ∙ c.shift_remove_index.ensures.entry ∙ here.2)
    ∙ sym (ap (λ es. files_in es c.args.name.now) kept ∙ here.4)
