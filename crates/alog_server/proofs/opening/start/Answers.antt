use Rattle.std.proofs.Common.{Result, subst}
use Rattle.alog_config.specs.Meaning.{Reads}
use Rattle.alog_config.specs.declared.config.Config.{Config}
use Rattle.alog_config.specs.declared.fault.ConfigFault.{ConfigFault}
use Rattle.alog_server.proofs.opening.start.Goals as goal

pub returns-in-Ok-clause-started : goal.returns-in-Ok-clause-started
returns-in-Ok-clause-started g c =
    let reads = subst (λ (r : Result Config ConfigFault). Reads c.args.document.now r) c.in-Ok.is c.read.ensures in
    c.start_with.ensures.started c.args.document.now reads

pub returns-in-Ok-clause-refused : goal.returns-in-Ok-clause-refused
returns-in-Ok-clause-refused g c =
    let reads = subst (λ (r : Result Config ConfigFault). Reads c.args.document.now r) c.in-Ok.is c.read.ensures in
    c.start_with.ensures.refused c.args.document.now reads
