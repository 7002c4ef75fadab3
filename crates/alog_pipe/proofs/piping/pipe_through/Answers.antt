use Rattle.std.proofs.Common.{List, [], ◌∷◌, ◌++◌, length, refl, ap, subst, ◌∙◌, arith}
use Rattle.alog_pipe.proofs.piping.pipe_through.Goals as goal
use Rattle.alog_pool.specs.Producer.{ProducerView}
use Rattle.alog_pool.specs.Report.{Ends}
use Rattle.alog_pool.specs.declared.shared.Shared.{Shared}

pub pump_all-log-requires-clause-ready : goal.pump_all-log-requires-clause-ready
pump_all-log-requires-clause-ready g c =
    let made = c.in-Ok-producer.ensures.made in
    let loggers = ap (λ (s : Shared). length s.loggers) made.shared in
    let most = made.limit in (
      (omega (arith, c.requires.ready.0, loggers), omega (arith, c.requires.ready.1, most)),
      omega (arith, c.requires.ready.2, most),
    )

pub returns-clause-piped : goal.returns-clause-piped
returns-clause-piped g c =
    let back = c.push_reserved.ensures.items
    ∙ ap (λ (l : List ProducerView). l ++ c.pump_all-log.result.0.producer ∷ []) c.in-Ok.ensures.items in
    record {
      begun = c.in-Ok-producer.producer;
      pool = c.producer.new.self;
      makes = c.in-Ok-producer.ensures.made;
      log = c.pump_all-log.result.0;
      pumps = c.pump_all-log.ensures;
      missing = refl;
      below = refl;
      ends = subst (λ (l : List ProducerView). Ends g.S.Store.tells g.S.Store.files g.S.Store.failures c.producer.new.self l c.end-report.result)
          back c.end-report.ensures;
    }
