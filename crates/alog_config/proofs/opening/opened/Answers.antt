use Rattle.alog_config.proofs.Handing.{over_store}
use Rattle.alog_config.proofs.opening.opened.Goals as goal

pub returns-in-Ok-clause-opened : goal.returns-in-Ok-clause-opened
returns-in-Ok-clause-opened g c = rw c.in-Never.is c.in-Ok.ensures.opened

pub returns-in-Ok-rotating-clause-opened : goal.returns-in-Ok-rotating-clause-opened
returns-in-Ok-rotating-clause-opened g c = rw c.in-BySize.is c.in-Ok-rotating.ensures.opened

pub returns-in-Ok-daily-clause-opened : goal.returns-in-Ok-daily-clause-opened
returns-in-Ok-daily-clause-opened g c = rw c.in-Daily.is c.in-Ok-daily.ensures.opened

pub returns-in-Err-rotating-clause-fault : goal.returns-in-Err-rotating-clause-fault
returns-in-Err-rotating-clause-fault g c =
    let unopened = c.in-Err-rotating.unopened in
    over_store g.S.Store.failures g.S.Store.why c.args.number c.args.store unopened.store unopened.error c.why-in-Err-rotating.result
    c.in-Err-rotating.ensures.counted c.why-in-Err-rotating.ensures.store.0 c.why-in-Err-rotating.ensures.told
