use Rattle.std.proofs.Common.{◌≡◌, sym, ◌∙◌, subst}
use Rattle.indexmap.specs.IndexMap.{with_value_at}
use Rattle.alog_sink.specs.Files.{AreSame, with_file}
use Rattle.alog_sink.specs.Listed.{files_in, IsAt}
use Rattle.alog_sink.proofs.Placed.{in_order_written, written_at}
use Rattle.alog_sink.proofs.sorted_files.SortedFiles.replace.Goals as goal

pub invariant_of-self : goal.invariant_of-self
invariant_of-self c =
    let kept : c.args.self.now ≡ c.self.inside.map.entries = sym (c.self.view_is ∙ c.place_of.ensures.kept) in
    in_order_written c.self.inside.map c.in-Some.at c.args.name.now
    (subst (λ es. IsAt es c.in-Some.at c.args.name.now) kept c.in-Some.ensures.place) c.self.invariant c.args.file

pub returns-in-Some : goal.returns-in-Some
returns-in-Some c =
    let kept : c.args.self.now ≡ c.self.inside.map.entries = sym (c.self.view_is ∙ c.place_of.ensures.kept) in
    let here = subst (λ es. IsAt es c.in-Some.at c.args.name.now) kept c.in-Some.ensures.place in
    subst (λ es. AreSame (with_file c.args.name.now c.args.file.items (files_in es))
    (files_in (with_value_at c.self.inside.map c.in-Some.at c.args.file).entries)) (sym kept)
    (written_at c.self.inside.map c.in-Some.at c.args.name.now here c.self.invariant.1 c.args.file)
