use Rattle.std.proofs.Common.{IsSome, refl, sym, ap, ◌∙◌, subst}
use Rattle.alog_sink.specs.Listed.{files_in}
use Rattle.alog_sink.proofs.sorted_files.SortedFiles.make.Goals as goal

pub returns-in-Some-clause-there : goal.returns-in-Some-clause-there
returns-in-Some-clause-there c =
    subst IsSome (sym (ap (λ es. files_in es c.args.name.now) c.place_of.ensures.kept ∙ c.in-Some.ensures.place.4)) refl
