use Rattle.std.proofs.Common.{List, ap, ◌∙◌}
use Rattle.alog_hosted.specs.Faults.{capped_sum_by, faults_of}
use Rattle.alog_hosted.specs.Workers.{WorkerView}
use Rattle.alog_hosted.proofs.Counted.{counted_turns}
use Rattle.alog_pool.specs.SinkSeat.{SinkSeatView}
use Rattle.alog_hosted.proofs.worker.HostedWorker.faults.Goals as goal

pub returns-clause-turns : goal.returns-clause-turns
returns-clause-turns g c =
    let S = g.row.S.Denot in
    c.faults_counted.ensures
    ∙ ap (λ (bs : List (SinkSeatView S)). capped_sum_by (λ (b : SinkSeatView S). b.faults) bs) c.deref.ensures.value
    ∙ counted_turns c.self.invariant.0
    ∙ ap (λ (w : WorkerView S). faults_of w) c.self.view_is
