use Rattle.std.proofs.Common.{◌≡◌, OnErr, OnOk, subst, sym, ◌∙◌}
use Rattle.indexmap.specs.IndexMap.{with_value_at}
use Rattle.alog_sink.specs.Files.{AreSame, appended, with_file}
use Rattle.alog_sink.specs.Listed.{files_in, IsAt}
use Rattle.alog_sink.proofs.Filed.{extended, made}
use Rattle.alog_sink.proofs.Placed.{in_order_written, value_at, written_at}
use Rattle.alog_sink.proofs.sorted_files.SortedFiles.append.Goals as goal

pub invariant_of-self : goal.invariant_of-self
invariant_of-self c =
    let kept : c.args.self.now ≡ c.self.inside.map.entries = sym (c.self.view_is ∙ c.place_of.ensures.kept) in
    in_order_written c.self.inside.map c.in-Some.at c.args.name.now
    (subst (λ es. IsAt es c.in-Some.at c.args.name.now) kept c.in-Some.ensures.place) c.self.invariant c.extend_from_slice.new.self

pub returns-in-Some-clause-done : goal.returns-in-Some-clause-done
returns-in-Some-clause-done c =
    let kept : c.args.self.now ≡ c.self.inside.map.entries = sym (c.self.view_is ∙ c.place_of.ensures.kept) in
    let here = subst (λ es. IsAt es c.in-Some.at c.args.name.now) kept c.in-Some.ensures.place in
    let w = c.extend_from_slice.new.self in
    subst (λ es. OnOk c.extend_from_slice.result (AreSame (appended c.args.name.now c.args.bytes.now (files_in es))
    (files_in (with_value_at c.self.inside.map c.in-Some.at w).entries))) (sym kept)
    (extended (files_in c.self.inside.map.entries) (files_in (with_value_at c.self.inside.map c.in-Some.at w).entries)
    c.args.name.now c.args.bytes.now c.index_mut.result.now.items w.items c.extend_from_slice.result
    (value_at c.self.inside.map c.in-Some.at c.args.name.now here c.index_mut.result.now c.index_mut.ensures.value) c.extend_from_slice.ensures.items
    (written_at c.self.inside.map c.in-Some.at c.args.name.now here c.self.invariant.1 w)).0

pub returns-in-Some-clause-failed : goal.returns-in-Some-clause-failed
returns-in-Some-clause-failed c =
    let kept : c.args.self.now ≡ c.self.inside.map.entries = sym (c.self.view_is ∙ c.place_of.ensures.kept) in
    let here = subst (λ es. IsAt es c.in-Some.at c.args.name.now) kept c.in-Some.ensures.place in
    let w = c.extend_from_slice.new.self in
    subst (λ es. OnErr c.extend_from_slice.result (AreSame (files_in es)
    (files_in (with_value_at c.self.inside.map c.in-Some.at w).entries))) (sym kept)
    (extended (files_in c.self.inside.map.entries) (files_in (with_value_at c.self.inside.map c.in-Some.at w).entries)
    c.args.name.now c.args.bytes.now c.index_mut.result.now.items w.items c.extend_from_slice.result
    (value_at c.self.inside.map c.in-Some.at c.args.name.now here c.index_mut.result.now c.index_mut.ensures.value) c.extend_from_slice.ensures.items
    (written_at c.self.inside.map c.in-Some.at c.args.name.now here c.self.invariant.1 w)).1

pub returns-in-None-clause-done : goal.returns-in-None-clause-done
returns-in-None-clause-done c =
    made (files_in c.args.self.now) (files_in c.put.new.self) c.args.name.now c.args.bytes.now c.put.result c.in-None.ensures.place
    (subst (λ es. OnOk c.put.result (AreSame (with_file c.args.name.now c.args.bytes.now (files_in es)) (files_in c.put.new.self)))
    c.place_of.ensures.kept c.put.ensures.done)
