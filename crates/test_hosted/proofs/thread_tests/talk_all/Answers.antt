use Rattle.std.proofs.Common.{◌≡◌, ◌∙◌, List, length, ap, sym, subst, arith}
use denote.Param.Send.{IsSync, param_sync, sendable}
use Rattle.std.proofs.Crossing.{crosses}
use Rattle.std.specs.List.{AllByRecursion}
use Rattle.alog_hosted.proofs.SharedCrosses.{hosted_sync, producer_send}
use Rattle.alog_hosted.specs.Lent.{IsProducerOf}
use Rattle.alog_pool.specs.Producer.{ProducerView}
use Rattle.test_hosted.proofs.Forks.{all_of, files_send, refill}
use Rattle.test_hosted.proofs.thread_tests.talk_all.Lts.{arg-1-2}
use Rattle.test_hosted.specs.contracts.thread_tests.Told as Told
use Rattle.test_hosted.proofs.thread_tests.talk_all.Goals as goal

told_sync : IsSync Told.the_row
told_sync = search (sendable, crosses) depth 9

pub for_each_mut-requires-send-T : goal.for_each_mut-requires-send-T
for_each_mut-requires-send-T g c κs within = search (sendable, producer_send) depth 20

pub for_each_mut-requires-sync-F : goal.for_each_mut-requires-sync-F
for_each_mut-requires-sync-F g c κs within =
    param_sync 2 (arg-1-2 g.row.R g.R.laws g.R.Abort-dict g.R.Threads-dict κs)
    (search (sendable, hosted_sync, files_send, told_sync) depth 20)

pub returns : goal.returns
returns g c =
    let Of : ProducerView → Type 0 = IsProducerOf c.args.hosted.now in
    let xs = c.args.producers.now.items in
    let ys = c.for_each_mut.new.s in
    let value = c.as_mut_slice.ensures.value in
    let same : length ys ≡ length xs = c.for_each_mut.auto.s ∙ ap (λ (l : List ProducerView). length l) value in
    subst (λ (l : List ProducerView). AllByRecursion Of l)
    (sym (refill c.args.producers.now.len xs ys (omega (arith, same, c.args.producers.now.ok.0)) (sym same)))
    (all_of Of ys (λ i d below.
    let did = (c.for_each_mut.ensures i d (omega (arith, below, same, c.for_each_mut.auto.s))).1 in
    subst Of did.left did.call))
