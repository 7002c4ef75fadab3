use Rattle.std.proofs.Common.{inr, subst, Result}
use Rattle.alog_config.specs.Meaning.{Reads}
use Rattle.alog_config.specs.declared.config.Config.{Config}
use Rattle.alog_config.specs.declared.fault.ConfigFault.{ConfigFault}
use Rattle.alog_program.proofs.Loading.{match_map}
use Rattle.alog_program.proofs.load.load_document.Goals as goal

pub returns-in-Ok : goal.returns-in-Ok
returns-in-Ok g c =
    let reads = subst (λ (r : Result Config ConfigFault). Reads c.args.document.now r) c.in-Ok.is c.read.ensures in
    match_map c.args.request.now.folder _ _ _ _ (λ made. inr (inr (c.in-Ok.config, reads, made)))
    (λ x made. inr (inr (c.in-Ok.config, reads, made))) c.load_with.ensures
