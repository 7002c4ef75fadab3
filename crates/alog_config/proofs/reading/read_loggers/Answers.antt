use Rattle.std.proofs.Common.{◌≡◌, ◌++◌, ◌∷◌, [], List, Bor, String, BTreeMap, Global, map, sym, subst, arith}
use Rattle.std.proofs.lemmas.Grind.{common_steps}
use Rattle.std.specs.declared.result.Result.TheVariants.{Err}
use Rattle.alog_config.proofs.Runs.{seen_at, loggers_refused, loggers_step}
use Rattle.alog_config.specs.Meaning.{IsLogger, IsLoggersFault, IsRefusedLogger, IsTableAnswer}
use Rattle.alog_config.specs.declared.config.LoggerConfig.{LoggerConfig}
use Rattle.toml.specs.View.{table_view}
use Rattle.toml.specs.declared.value.Value.{Value}
use Rattle.alog_config.proofs.reading.read_loggers.Goals as goal

pub returns-in-Err-clause-refused : goal.returns-in-Err-clause-refused
returns-in-Err-clause-refused c =
    let holds = λ (b : Bor (BTreeMap (String Global) Value)). table_view b.now in
    let ts = map holds c.args.tables.now in
    let x = c.index-tables-i.result in
    let at = seen_at holds c.args.tables.now c.loop-i.i x c.loop-i-test.true c.index-tables-i.is in
    let told = rw c.in-Err.is at c.read_logger.ensures in
    let here = subst
    (λ (ss : List LoggerConfig). IsTableAnswer (IsLogger c.args.sinks.now ss (holds x)) (IsRefusedLogger c.args.sinks.now ss
    (holds x)) (Err c.in-Err.fault))
    c.as_slice.ensures.value told in
    subst (IsLoggersFault c.args.sinks.now ts) (sym c.at.ensures)
    (loggers_refused c.args.sinks.now ts c.loop-i.i c.loop-i.loggers.items c.in-Err.fault c.loop-i.invariant at here)

pub loop-i-preserved : goal.loop-i-preserved
loop-i-preserved c =
    let holds = λ (b : Bor (BTreeMap (String Global) Value)). table_view b.now in
    let ts = map holds c.args.tables.now in
    let x = c.index-tables-i.result in
    let at = seen_at holds c.args.tables.now c.loop-i.i x c.loop-i-test.true c.index-tables-i.is in
    let told = rw c.in-Ok.is at c.read_logger.ensures in
    let here = subst (λ (ss : List LoggerConfig). IsLogger c.args.sinks.now ss (holds x) c.in-Ok.logger) c.as_slice.ensures.value told in
    let grown : c.push.new.self.items ≡ c.loop-i.loggers.items ++ c.in-Ok.logger ∷ [] = grind (arith, common_steps) in
    rw grown (loggers_step ts c.loop-i.i c.loop-i.invariant at here)
