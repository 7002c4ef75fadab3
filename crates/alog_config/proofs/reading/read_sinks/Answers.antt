use Rattle.std.proofs.Common.{◌≡◌, ◌++◌, ◌∷◌, [], List, Bor, String, BTreeMap, Global, map, sym, subst, arith}
use Rattle.std.proofs.lemmas.Grind.{common_steps}
use Rattle.std.specs.declared.result.Result.TheVariants.{Err}
use Rattle.alog_config.proofs.Runs.{seen_at, sinks_refused, sinks_step}
use Rattle.alog_config.specs.Meaning.{IsSink, IsSinksFault, IsRefusedSink, IsTableAnswer}
use Rattle.alog_config.specs.declared.config.SinkConfig.{SinkConfig}
use Rattle.toml.specs.View.{table_view}
use Rattle.toml.specs.declared.value.Value.{Value}
use Rattle.alog_config.proofs.reading.read_sinks.Goals as goal

pub returns-in-Err-clause-refused : goal.returns-in-Err-clause-refused
returns-in-Err-clause-refused c =
    let holds = λ (b : Bor (BTreeMap (String Global) Value)). table_view b.now in
    let ts = map holds c.args.tables.now in
    let x = c.index-tables-i.result in
    let at = seen_at holds c.args.tables.now c.loop-i.i x c.loop-i-test.true c.index-tables-i.is in
    let told = rw c.in-Err.is at c.read_sink.ensures in
    let here = subst
    (λ (ss : List SinkConfig). IsTableAnswer (IsSink c.args.limit ss (holds x)) (IsRefusedSink c.args.limit ss (holds x))
    (Err c.in-Err.fault))
    c.as_slice.ensures.value told in
    subst (IsSinksFault c.args.limit ts) (sym c.at.ensures)
    (sinks_refused c.args.limit ts c.loop-i.i c.loop-i.sinks.items c.in-Err.fault c.loop-i.invariant at here)

pub loop-i-preserved : goal.loop-i-preserved
loop-i-preserved c =
    let holds = λ (b : Bor (BTreeMap (String Global) Value)). table_view b.now in
    let ts = map holds c.args.tables.now in
    let x = c.index-tables-i.result in
    let at = seen_at holds c.args.tables.now c.loop-i.i x c.loop-i-test.true c.index-tables-i.is in
    let told = rw c.in-Ok.is at c.read_sink.ensures in
    let here = subst (λ (ss : List SinkConfig). IsSink c.args.limit ss (holds x) c.in-Ok.sink) c.as_slice.ensures.value told in
    let grown : c.push.new.self.items ≡ c.loop-i.sinks.items ++ c.in-Ok.sink ∷ [] = grind (arith, common_steps) in
    rw grown (sinks_step ts c.loop-i.i c.loop-i.invariant at here)
