use Rattle.alog_server.proofs.Refusing.{of_build, unopened_told}
use Rattle.alog_server.proofs.setup.setup_for.Goals as goal

pub returns-in-Err-clause-failed : goal.returns-in-Err-clause-failed
returns-in-Err-clause-failed g c =
    unopened_told g.S.Store.failures g.S.Store.why c.args.config.now c.args.stores.items c.in-Err.error c.unbuilt.result c.unbuilt.ensures
    c.in-Err.ensures.fault

pub returns-in-Err-clause-refused : goal.returns-in-Err-clause-refused
returns-in-Err-clause-refused g c =
    of_build g.S.Store.failures g.S.Store.why c.args.config.now c.args.stores.items c.in-Err.error c.unbuilt.result c.unbuilt.ensures
    c.in-Err.ensures.fault
