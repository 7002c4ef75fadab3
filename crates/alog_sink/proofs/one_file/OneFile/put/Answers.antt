use Rattle.std.proofs.Common.{◌++◌, ◌∷◌, [], OnOk, subst, List, ℕ}
use Rattle.alog_sink.specs.Files.{AreSame}
use Rattle.alog_sink.specs.OneFile.{one_file}
use Rattle.alog_sink.proofs.OneFiles.{one_file_kept}
use Rattle.alog_sink.proofs.one_file.OneFile.put.Goals as goal

pub returns-clause-kept : goal.returns-clause-kept
returns-clause-kept g c tells opening lines =
    let old = g.S.Store.files c.args.store.now in
    let new = g.S.Store.files c.append.new.self in
    let line = c.args.line.now in
    let P : List ℕ → Type 0 = λ f. AreSame (one_file f opening lines) old
    → OnOk c.append.result (AreSame (one_file f opening (lines ++ line ∷ [])) new) in
    subst P c.as_str.ensures (one_file_kept c.as_str.result.now line opening {old = old} new lines c.append.result (c.append.ensures.done tells))
