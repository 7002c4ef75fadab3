use Rattle.std.proofs.Common.{◌≡◌, Some, string_bytes, subst}
use Rattle.std.proofs.lemmas.Result.{IfOk-at_ok}
use Rattle.alog_sink.specs.Files.{AreSame, with_file}
use Rattle.alog_sink.specs.Listed.{files_in}
use Rattle.alog_sink.proofs.Filed.{files_follow}
use Rattle.alog_sink.proofs.sorted_files.SortedFiles.put.Goals as goal

pub returns-clause-done : goal.returns-clause-done
returns-clause-done c =
    let named = IfOk-at_ok (λ s. string_bytes s ≡ c.args.name.now) c.in_ok-key.was c.from_str.ensures.ok in
    let has_bytes = IfOk-at_ok (λ v. v.items ≡ c.args.bytes.now) c.in_ok-file.was c.from_slice.ensures.items in
    subst (λ es. AreSame (with_file c.args.name.now c.args.bytes.now (files_in es)) (files_in c.insert_sorted.new.self.entries)) c.self.view_is
    (subst (λ bs. AreSame (with_file c.args.name.now bs (files_in c.self.inside.map.entries)) (files_in c.insert_sorted.new.self.entries)) has_bytes
    (files_follow c.self.inside.map c.insert_sorted.new.self c.in_ok-key.key c.args.name.now named (Some c.in_ok-file.file)
    c.in_ok-insert_sorted.ensures.updates))
