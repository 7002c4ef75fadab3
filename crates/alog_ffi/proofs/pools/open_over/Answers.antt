use Rattle.std.proofs.Common.{List, subst}
use Rattle.std.specs.Arc.{arc_value}
use Rattle.alog_ffi.specs.Opening.{IsUnopenedFor, answer_of}
use Rattle.alog_ffi.specs.declared.answer.Answer.TheVariants as answer
use Rattle.alog_ffi.specs.declared.opening.Refusal.{Refusal}
use Rattle.alog_outbox.specs.declared.found.FoundFile.{FoundFile}
use Rattle.alog_ffi.proofs.pools.open_over.Goals as goal

pub returns-clause-refused : goal.returns-clause-refused
returns-clause-refused c =
    let refused = subst (λ (r : Refusal). IsUnopenedFor c.args.asked (arc_value c.in-Ok.files).items (answer_of r)) c.in-Err-NoStore.field-0-is
    c.in-Err-NoStore.ensures.refused in
    subst (λ (fs : List FoundFile). IsUnopenedFor c.args.asked fs answer.NoStore) c.in-Ok.ensures.shared refused
