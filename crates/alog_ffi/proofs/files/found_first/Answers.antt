use Rattle.std.proofs.Common.{ap, ◌∙◌, List, [], ◌∷◌, ◌++◌}
use Rattle.alog_outbox.specs.declared.found.FoundFile.{FoundFile}
use Rattle.alog_ffi.proofs.files.found_first.Goals as goal

pub returns-in-Done : goal.returns-in-Done
returns-in-Done c =
    let e = c.in-Done.ensures in
    (c.add.new.files, (e.0, e.1, e.2, e.3 ∙ ap (λ (l : List FoundFile). l ++ e.0 ∷ []) c.new-files.ensures), c.put.ensures ∙ c.set.ensures)
