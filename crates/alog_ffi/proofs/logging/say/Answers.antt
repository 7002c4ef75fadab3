use Rattle.std.proofs.Common.{List, inr, subst, to_z-of_z}
use Rattle.alog_ffi.specs.Said.{IsHeard}
use Rattle.alog_registry.specs.declared.logger.Logger.{Logger}
use Rattle.alog_ffi.proofs.logging.say.Goals as goal

pub returns-in-Ok : goal.returns-in-Ok
returns-in-Ok c =
    let e = c.in-Ok.ensures in
    let logs = simp (to_z-of_z, c.args.said.fits) at e.logs in
    inr (record {
      heard = c.in_ok-heard.heard;
      is = subst (λ (ls : List Logger). IsHeard ls c.args.said c.in_ok-heard.heard) c.loggers-2.ensures c.in_ok-heard.ensures.ok;
      same = record { hosted = e.same.0; producer = e.same.1 };
      logs = logs;
      blocks = e.blocks;
      within = e.within;
    })
