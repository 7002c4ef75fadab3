use Rattle.std.proofs.Common.{◌∙◌}
use Rattle.alog_server.proofs.Telling.{started_count, told_count}
use Rattle.alog_server.proofs.server.Server.holding.Goals as goal

pub invariant_of-result : goal.invariant_of-result
invariant_of-result g c =
    let setup = c.in_ok-setup.setup in
    let starts = c.in-Ok.ensures.started in
    record {
      fresh = starts.made;
      each = told_count g.S.Store.tells g.S.Store.files g.S.Store.failures c.args.config.now c.args.stores.items setup.loggers setup.sinks.items
          c.in_ok-sinks.sinks.items c.in_ok-setup.ensures.given.built c.in_ok-sinks.ensures ∙ started_count setup c.in-Ok.pool starts;
    }
