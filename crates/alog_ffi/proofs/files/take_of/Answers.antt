use Rattle.std.proofs.Common.{refl, sym, subst}
use Rattle.alog_ffi.specs.Files.{AnswersTake, IsUntaken, OnFiles}
use Rattle.alog_ffi.specs.declared.part.Part.{Part}
use Rattle.alog_ffi.specs.declared.part.Part.TheVariants.{Files}
use Rattle.alog_ffi.proofs.files.take_of.Goals as goal

pub returns-in-Files-clause-taken : goal.returns-in-Files-clause-taken
returns-in-Files-clause-taken c =
    let to = c.args.to.now in
    let new = c.take_from.new in
    let answers = AnswersTake to new.to new.length in
    subst (λ (p : Part). OnFiles p (IsUntaken to new.to new.length) answers c.take_from.result (Files new.drains)) (sym c.in-Files.is)
    (new.drains, refl, c.take_from.ensures)
