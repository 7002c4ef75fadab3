use Rattle.std.proofs.Common.{◌≡◌, None, ap, false, option_map, rules, sym, ◌∙◌}
use Rattle.std.specs.Str.{bytes_eq}
use Rattle.alog_sink.specs.Listed.{files_in}
use Rattle.alog_sink.proofs.Filed.{source_kept}
use Rattle.alog_sink.proofs.Placed.{is_there}
use Rattle.alog_sink.proofs.sorted_files.SortedFiles.rename.Goals as goal

pub returns-in_default-clause-done : goal.returns-in_default-clause-done
returns-in_default-clause-done c =
    let apart : bytes_eq c.args.from.now c.args.to.now ≡ false = search rules in
    let gone : files_in c.make.new.self c.args.from.now ≡ None = sym c.remove.ensures.file ∙ ap (option_map (λ v. v.items)) c.in_default.is in
    let kept = source_kept c.args.from.now c.args.to.now (files_in c.place_of.new.self) (files_in c.make.new.self) apart (search rules) in
    let none : files_in c.args.self.now c.args.from.now ≡ None =
    sym (ap (λ es. files_in es c.args.from.now) c.place_of.ensures.kept) ∙ sym kept ∙ gone in
    absurd (is_there c.args.self.now c.args.from.now c.place_of.result (search rules) c.place_of.ensures.place none)
