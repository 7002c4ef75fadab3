use Rattle.std.proofs.Common.{List, ◌∷◌, ◌++◌, ℕ, ap, ◌∙◌}
use Rattle.alog_outbox.specs.Calls.{call, record_of}
use Rattle.alog_outbox.specs.declared.call.Call.{Call}
use Rattle.alog_outbox.proofs.hand.write.Goals as goal

pub returns-clause-records : goal.returns-clause-records
returns-clause-records c =
    let told : Call = call c.args.kind c.args.name.now c.args.rest.now in
    let were = c.in-Some.ensures.records in
    (told ∷ were.0, c.put_record.ensures ∙ ap (λ (l : List ℕ). l ++ record_of told) were.1)
