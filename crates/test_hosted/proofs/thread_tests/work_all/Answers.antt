use Rattle.std.proofs.Common.{◌≡◌, ◌∙◌, List, length, ap, sym, subst, arith}
use denote.Param.Send.{IsSync, param_sync, sendable}
use Rattle.std.proofs.Crossing.{crosses}
use Rattle.std.specs.List.{AllByRecursion}
use Rattle.alog_hosted.proofs.SharedCrosses.{hosted_sync, worker_send}
use Rattle.alog_hosted.specs.Workers.{IsWorkerOf, WorkerView}
use Rattle.test_hosted.proofs.Forks.{all_of, Files, files_send, refill}
use Rattle.test_hosted.proofs.thread_tests.work_all.Lts.{arg-1-2}
use Rattle.test_hosted.specs.contracts.thread_tests.Told as Told
use Rattle.test_hosted.proofs.thread_tests.work_all.Goals as goal

told_sync : IsSync Told.the_row
told_sync = search (sendable, crosses) depth 9

pub for_each_mut-requires-send-T : goal.for_each_mut-requires-send-T
for_each_mut-requires-send-T g c κs within = search (sendable, worker_send, files_send) depth 20

pub for_each_mut-requires-sync-F : goal.for_each_mut-requires-sync-F
for_each_mut-requires-sync-F g c κs within =
    param_sync 2 (arg-1-2 g.row.R g.R.laws g.R.Abort-dict g.R.Threads-dict κs)
    (search (sendable, hosted_sync, files_send, told_sync) depth 20)

pub returns : goal.returns
returns g c =
    let Of : WorkerView Files → Type 0 = IsWorkerOf c.args.hosted.now in
    let xs = c.args.workers.now.items in
    let ys = c.for_each_mut.new.s in
    let value = c.as_mut_slice.ensures.value in
    let same : length ys ≡ length xs = c.for_each_mut.auto.s ∙ ap (λ (l : List (WorkerView Files)). length l) value in
    subst (λ (l : List (WorkerView Files)). AllByRecursion Of l)
    (sym (refill c.args.workers.now.len xs ys (omega (arith, same, c.args.workers.now.ok.0)) (sym same)))
    (all_of Of ys (λ i d below.
    let did = (c.for_each_mut.ensures i d (omega (arith, below, same, c.for_each_mut.auto.s))).1 in
    subst Of did.left did.call))
