use Rattle.std.proofs.Common.{Result, sym, subst}
use Rattle.std.proofs.lemmas.Int.{to_z-of_z}
use Rattle.std.specs.Prelude.{Vec}
use Rattle.std.specs.declared.alloc.Global.{Global}
use Rattle.alog_policy.specs.declared.policy.Outcome.{Outcome}
use Rattle.alog_pool.specs.Producer.{ProducerView}
use Rattle.alog_server.specs.Says.{DumpsAt}
use Rattle.alog_server.specs.declared.error.LogError.{LogError}
use Rattle.alog_server.proofs.Saying.{dumped}
use Rattle.alog_server.proofs.client.Client.dump_at.Goals as goal

pub returns : goal.returns
returns g c =
    let n = c.args.logger.now.number in
    let old = c.self.inside.producer in
    let new = c.dump_backtrace-answer.new.self in
    let does = c.dump_backtrace-answer.ensures in
    let posts = simp (to_z-of_z, c.ranges.time) at does.dumped in
    subst (λ (o : ProducerView). DumpsAt c.args.time n o c.outcomes_of.result new) c.self.view_is
    (subst (λ (q : Result (Vec (Outcome (Unit {0})) Global) LogError). DumpsAt c.args.time n old q new) (sym c.outcomes_of.ensures)
    (dumped c.args.time n old new c.dump_backtrace-answer.result posts does.err does.same))
