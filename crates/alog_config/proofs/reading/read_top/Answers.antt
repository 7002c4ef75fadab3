use Rattle.std.proofs.Common.{List, [], Bor, String, BTreeMap, Global, map, subst, ℕ}
use Rattle.alog_config.proofs.Runs.{logger_fault, sink_fault, top_had}
use Rattle.alog_config.proofs.Sounding.{top_kept, top_sound}
use Rattle.alog_config.specs.Meaning.{AreLoggers, AreSinks, IsLoggersFault, IsSinksFault}
use Rattle.alog_config.specs.Values.{tables_in}
use Rattle.alog_config.specs.declared.config.SinkConfig.{SinkConfig}
use Rattle.toml.specs.View.{table_view}
use Rattle.toml.specs.declared.value.Value.{Value}
use Rattle.alog_config.proofs.reading.read_top.Goals as goal

pub returns-in-Err : goal.returns-in-Err
returns-in-Err c =
    let holds = λ (b : Bor (BTreeMap (String Global) Value)). table_view b.now in
    let f = c.in-Ok.top in
    let v = c.in-Given-Given.sinks in
    let w = c.in-Given-Given.loggers in
    let t = table_view c.args.table.now in
    let top = top_had t f v w c.in-Ok.ensures
    (rw c.in_default-top_fault.is at c.top_fault.ensures) c.in-Given-Given.is-0 c.in-Given-Given.is-1 in
    let told = subst (λ (bs : List (Bor (BTreeMap (String Global) Value))). IsSinksFault c.or-text.result (map holds bs) c.in-Err.fault)
    c.as_slice.ensures.value c.in-Err.ensures.refused in
    let limited = subst (λ (n : ℕ). IsSinksFault n (tables_in v) c.in-Err.fault) c.or-text.ensures told in
    sink_fault t f v w c.in-Err.fault top limited

pub returns-in-Err-read_loggers : goal.returns-in-Err-read_loggers
returns-in-Err-read_loggers c =
    let holds = λ (b : Bor (BTreeMap (String Global) Value)). table_view b.now in
    let f = c.in-Ok.top in
    let v = c.in-Given-Given.sinks in
    let w = c.in-Given-Given.loggers in
    let t = table_view c.args.table.now in
    let sinks = c.in-Ok-read_sinks.sinks.items in
    let fault = c.in-Err-read_loggers.fault in
    let top = top_had t f v w c.in-Ok.ensures
    (rw c.in_default-top_fault.is at c.top_fault.ensures) c.in-Given-Given.is-0 c.in-Given-Given.is-1 in
    let said = subst (λ (bs : List (Bor (BTreeMap (String Global) Value))). AreSinks c.or-text.result [] (map holds bs) sinks)
    c.as_slice.ensures.value c.in-Ok-read_sinks.ensures.says in
    let are = subst (λ (n : ℕ). AreSinks n [] (tables_in v) sinks) c.or-text.ensures said in
    let told = subst (λ (bs : List (Bor (BTreeMap (String Global) Value))). IsLoggersFault c.as_slice-3.result.now (map holds bs) fault)
    c.as_slice-2.ensures.value c.in-Err-read_loggers.ensures.refused in
    let known = subst (λ (ss : List SinkConfig). IsLoggersFault ss (tables_in w) fault) c.as_slice-3.ensures.value told in
    logger_fault v w sinks fault top are known

pub invariant_of-result : goal.invariant_of-result
invariant_of-result c =
    let holds = λ (b : Bor (BTreeMap (String Global) Value)). table_view b.now in
    let f = c.in-Ok.top in
    let v = c.in-Given-Given.sinks in
    let w = c.in-Given-Given.loggers in
    let t = table_view c.args.table.now in
    let sinks = c.in-Ok-read_sinks.sinks.items in
    let loggers = c.in-Ok-read_loggers.loggers.items in
    let said = subst (λ (bs : List (Bor (BTreeMap (String Global) Value))). AreSinks c.or-text.result [] (map holds bs) sinks)
    c.as_slice.ensures.value c.in-Ok-read_sinks.ensures.says in
    let told = subst (λ (bs : List (Bor (BTreeMap (String Global) Value))). AreLoggers c.as_slice-3.result.now [] (map holds bs) loggers)
    c.as_slice-2.ensures.value c.in-Ok-read_loggers.ensures.says in
    let known = subst (λ (ss : List SinkConfig). AreLoggers ss [] (tables_in w) loggers) c.as_slice-3.ensures.value told in
    record {
      top = top_kept t f _ _ c.in-Ok.ensures c.or.ensures c.or-2.ensures;
      sound = top_sound {ss = sinks} {ls = loggers} c.in-Ok.ensures c.in-Given-Given.is-0 c.in-Given-Given.is-1 c.or-text.ensures
          c.clock_of.ensures said known;
    }

pub returns : goal.returns
returns c =
    let holds = λ (b : Bor (BTreeMap (String Global) Value)). table_view b.now in
    let f = c.in-Ok.top in
    let v = c.in-Given-Given.sinks in
    let w = c.in-Given-Given.loggers in
    let sinks = c.in-Ok-read_sinks.sinks.items in
    let loggers = c.in-Ok-read_loggers.loggers.items in
    let top = top_had (table_view c.args.table.now) f v w c.in-Ok.ensures
    (rw c.in_default-top_fault.is at c.top_fault.ensures) c.in-Given-Given.is-0 c.in-Given-Given.is-1 in
    let said = subst (λ (bs : List (Bor (BTreeMap (String Global) Value))). AreSinks c.or-text.result [] (map holds bs) sinks)
    c.as_slice.ensures.value c.in-Ok-read_sinks.ensures.says in
    let told = subst (λ (bs : List (Bor (BTreeMap (String Global) Value))). AreLoggers c.as_slice-3.result.now [] (map holds bs) loggers)
    c.as_slice-2.ensures.value c.in-Ok-read_loggers.ensures.says in
    let known = subst (λ (ss : List SinkConfig). AreLoggers ss [] (tables_in w) loggers) c.as_slice-3.ensures.value told in
    record {
      fields = f;
      sink_tables = tables_in v;
      logger_tables = tables_in w;
      top = top;
      queue = c.or.ensures;
      workers = c.or-2.ensures;
      text = c.or-text.ensures;
      zone = c.clock_of.ensures;
      process = c.or-3.ensures;
      retry = c.given.ensures;
      sinks = said;
      loggers = known;
    }
