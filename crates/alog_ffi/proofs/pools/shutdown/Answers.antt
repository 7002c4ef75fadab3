use Rattle.std.proofs.Common.{sym, subst, ◌∙◌}
use Rattle.alog_ffi.specs.Calls.{AnswersEnd}
use Rattle.alog_ffi.specs.declared.answer.Answer.TheVariants as answer
use Rattle.alog_ffi.specs.declared.part.Part.{Part}
use Rattle.alog_ffi.specs.Handles.{held}
use Rattle.alog_ffi.proofs.pools.shutdown.Goals as goal

pub returns-in-Ok : goal.returns-in-Ok
returns-in-Ok c =
    let was = c.in-Some.ensures.taken.0 ∙ sym c.out.ensures.part ∙ c.in-Pool.is in
    subst (λ (p : Part). AnswersEnd p c.args.told.now c.report_of.result answer.Done (held c.take.new.self)) (sym was)
    (c.in-Some.ensures.left, c.in-Ok.report, c.in-Ok.ensures.ends, c.report_of.ensures)
