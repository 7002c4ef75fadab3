use Rattle.std.proofs.Common.{◌≡◌, ap, sym, subst, ◌∙◌}
use Rattle.std.proofs.lemmas.Result.{IfOk-weaker}
use Rattle.std.specs.declared.thread.PromisedHandle.{PromisedHandle}
use Rattle.alog_pool.specs.Pool.{Hires}
use Rattle.alog_pool.specs.declared.worker.Worker.{Worker}
use Rattle.alog_pool.specs.declared.works.Works.{Works}
use Rattle.alog_pool.proofs.pool_parts.PoolParts.hire.Goals as goal

pub set_to_work-requires-clause-at_work : goal.set_to_work-requires-clause-at_work
set_to_work-requires-clause-at_work g c κs within =
    let s = c.requires.stands in
    (c.in_ok-worker.ensures.hires s.0 s.1 s.2).begins.at_work

pub returns-clause-hires : goal.returns-clause-hires
returns-clause-hires g c = λ n stands few.
    let S = g.row.S.Denot in
    IfOk-weaker c.set_to_work.result (λ (h : PromisedHandle (Worker S) (Works S)). h.promise.start.value ≡ c.in_ok-worker.worker)
    (λ h. Hires n c.args.self.now c.worker.new.self h.promise.start.value)
    (λ h same. subst (λ (w : Worker S). Hires n c.args.self.now c.worker.new.self w) (sym same) (c.in_ok-worker.ensures.hires n stands few))
    c.set_to_work.ensures

pub returns-clause-number : goal.returns-clause-number
returns-clause-number g c =
    let S = g.row.S.Denot in
    IfOk-weaker c.set_to_work.result (λ (h : PromisedHandle (Worker S) (Works S)). h.promise.start.value ≡ c.in_ok-worker.worker)
    (λ h. h.promise.start.value.number ≡ c.args.number)
    (λ h same. ap (λ (w : Worker S). w.number) same ∙ c.in_ok-worker.ensures.number)
    c.set_to_work.ensures
