use denote.Exit.{no}
use denote.Param.{param}
use denote.Param.Send.{IsSend, sendable, arg_send, param_send, recorded_send, struct_send}
use denote.RattleType.{RattleType}
use denote.Struct.Declared.{shape}
use denote.Struct.Tuple.{field_at, type_at}
use Rattle.std.proofs.Common.{rules, ◌≡◌, List, [], ◌∷◌, ap, subst, ◌∙◌}
use Rattle.std.proofs.lemmas.Result.{IfOk-weaker}
use Rattle.std.specs.Prelude.{IfOk}
use Rattle.std.specs.declared.thread.PromisedHandle.{PromisedHandle}
use Rattle.alog_pool.specs.declared.worker.Worker.{Worker as WorkerOf}
use Rattle.alog_pool.specs.declared.works.Works.{Works}
use Rattle.std.proofs.Crossing.{Arc-send}
use Rattle.std.specs.contracts.alloc.Global as Global
use Rattle.std.specs.contracts.impls.GlobalAllocator.TheImpl.{ghosts as alloc_ghosts}
use Rattle.std.specs.contracts.sync.Arc as Arc
use Rattle.alog_pool.proofs.SharedCrosses.{worker_send}
use Rattle.alog_pool.proofs.pool_parts.set_to_work.Lts.{arg-1-2, arg-1-3}
use Rattle.alog_pool.proofs.pool_parts.set_to_work.Goals as goal
use Rattle.alog_pool.specs.Working.{IsAtWork}
use Rattle.alog_pool.specs.contracts.worker.Worker as Worker

pub spawn_with-answer-requires-send-F : goal.spawn_with-answer-requires-send-F
spawn_with-answer-requires-send-F g c κs within =
    let own : IsSend (param 1 g.row.R) = c.type_bounds.send-R in
    let gate = Arc-send (param 2 g.row.G) c.type_bounds.send-G c.type_bounds.sync-G in
    let worker = worker_send (param 0 g.row.S) g.S.Store c.type_bounds.send-S in
    let kept : List RattleType = param 1 g.row.R ∷ Arc.the_row (param 2 g.row.G) Global.the_row alloc_ghosts
    ∷ Worker.the_row (param 0 g.row.S) g.S.Store ∷ [] in
    param_send 2 (arg-1-2 g.row.S g.row.R g.row.G g.S.laws g.R.laws g.G.laws g.S.Store g.S.Store-dict
    g.R.Threads g.R.Threads-dict g.R.Wait g.R.Wait-dict g.R.Clock g.R.Clock-dict g.R.Clone g.R.Clone-dict g.G.Gate g.G.Gate-dict
    g.S.Destruct-dict g.R.Destruct-dict g.G.Destruct-dict κs) (arg_send _ no _ (recorded_send (field_at _ kept).row _ _ (type_at _ kept).to_one
    (struct_send (shape (type_at _ kept)) (own, (gate, (worker, tt))))))

pub spawn_with-answer-requires-send-T : goal.spawn_with-answer-requires-send-T
spawn_with-answer-requires-send-T g c κs within =
    param_send 3 (arg-1-3 g.row.S g.row.R g.row.G g.S.laws g.R.laws g.G.laws g.S.Store g.S.Store-dict
    g.R.Threads g.R.Threads-dict g.R.Wait g.R.Wait-dict g.R.Clock g.R.Clock-dict g.R.Clone g.R.Clone-dict g.G.Gate g.G.Gate-dict
    g.S.Destruct-dict g.R.Destruct-dict g.G.Destruct-dict κs) (search (sendable, worker_send) depth 9)

pub spawn_with-answer-requires-clause-runs : goal.spawn_with-answer-requires-clause-runs
spawn_with-answer-requires-clause-runs g c =
    let works : IsAtWork c.args.worker c.args.worker = c.requires.at_work in
    search (rules, works)

pub returns : goal.returns
returns g c =
    let started = λ (h : PromisedHandle (WorkerOf g.row.S.Denot) (Works g.row.S.Denot)). h.promise.start.value ≡ c.args.worker in
    let ok = IfOk-weaker c.spawn_with-answer.result _ started
    (λ h is. ap (λ p. p.start.value) is ∙ c.of.ensures) c.spawn_with-answer.ensures.ok in
    IfOk-weaker c.handle_of.result _ started (λ h is. subst (λ r. IfOk r started) is ok) c.handle_of.ensures
