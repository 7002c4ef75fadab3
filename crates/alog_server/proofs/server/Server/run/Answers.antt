use Rattle.std.proofs.Common.{refl, sym, subst, ◌∙◌, arith}
use Rattle.std.proofs.lemmas.Result.{IfOk-weaker}
use Rattle.alog_pool.specs.Pool.{lanes_of}
use Rattle.alog_pool.specs.Report.{Ends}
use Rattle.alog_pool.specs.declared.report.Report.{Report}
use Rattle.alog_pool.specs.declared.shared.Shared.{Shared}
use Rattle.alog_server.proofs.SharedEnding.{told}
use Rattle.alog_server.proofs.SharedMaking.{makes_count, makes_shared}
use Rattle.alog_server.proofs.Telling.{closed_count, made_count}
use Rattle.alog_server.proofs.server.Server.run.Goals as goal
use Rattle.alog_server.specs.Making.{AreOf}

pub shutdown-requires-clause-own : goal.shutdown-requires-clause-own
shutdown-requires-clause-own g c κs within =
    let run = c.work_with-producers.ensures.works in
    let shared = makes_shared c.args.self.pool c.work_with-producers.new.pool run.begun run.makes in
    subst (λ (s : Shared). AreOf s c.work_with-producers.result.0.items) (sym shared.0) run.own

pub with-requires : goal.with-requires
with-requires g c =
    let run = c.work_with-producers.ensures.works in
    let new = c.work_with-producers.new.pool in
    let r = c.in-Ok.report in
    c.args.self.each
    ∙ sym (closed_count g.S.Store.tells g.S.Store.files g.S.Store.failures (lanes_of new.sink_seats) _ r.sinks.items r.faults.items
    c.in-Ok.ensures.ends.sinks ∙ made_count c.args.self.pool new run.begun run.makes)

pub unreachable-requires : goal.unreachable-requires
unreachable-requires g c =
    let run = c.work_with-producers.ensures.works in
    let count = makes_count c.args.self.pool c.work_with-producers.new.pool run.begun run.makes in
    let none = c.args.self.fresh in
    let many = run.many in
    let fewer = c.in-Err.ensures.out.0 refl in
    omega (arith, fewer, count, none, many)

pub returns-clause-runs : goal.returns-clause-runs
returns-clause-runs g c =
    let run = c.work_with-producers.ensures.works in
    let new = c.work_with-producers.new.pool in
    let back = c.work_with-producers.result.0.items in
    IfOk-weaker c.with.result _ _ (λ r h. record {
      begun = run.begun;
      many = run.each h.1;
      pool = new;
      makes = run.makes;
      back = back;
      all = run.many ∙ run.each h.1;
      own = run.own;
      ends = subst (λ (q : Report g.row.S.Denot). Ends g.S.Store.tells g.S.Store.files g.S.Store.failures new back q) (sym h.0)
          c.in-Ok.ensures.ends;
    }) c.with.ensures.ran

pub returns-clause-error : goal.returns-clause-error
returns-clause-error g c =
    IfOk-weaker c.with.result _ _
    (λ r h. told (g.W.Work.ends c.args.work.now) c.args.threads c.work_with-producers.result.1 r.error c.work_with-producers.ensures.ends
    h.2) c.with.ensures.ran
