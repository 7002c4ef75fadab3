use Rattle.std.proofs.Common.{◌≡◌, ◌<◌, ◌∙◌, ℕ, suc, List, [], ◌∷◌, length, ap, sym, subst, arith}
use Rattle.std.specs.Prelude.{slice_index_or}
use Rattle.std.specs.List.{AllByRecursion}
use denote.Param.Send.{sendable}
use Rattle.alog_pool.proofs.SharedCrosses.{producer_send}
use Rattle.alog_pool.specs.Producer.{ProducerView}
use Rattle.alog_pool.specs.declared.shared.Shared.{Shared}
use Rattle.alog_server.proofs.SharedEnding.{refill}
use Rattle.test_pool.proofs.thread_tests.talk_all.Goals as goal

-- where each producer is of the pool that the one before it at its place was of, all are of it
all_stay : (s : Shared) (xs ys : List ProducerView) → length ys ≡ length xs
    → ((i : ℕ) (d : ProducerView) → i < length xs → (slice_index_or ys i d).shared ≡ (slice_index_or xs i d).shared)
    → AllByRecursion (λ (p : ProducerView). p.shared ≡ s) xs → AllByRecursion (λ (p : ProducerView). p.shared ≡ s) ys
all_stay s [] [] long at all = tt
all_stay s [] (y ∷ ys) long at all = absurd (omega (arith, long))
all_stay s (x ∷ xs) [] long at all = absurd (omega (arith, long))
all_stay s (x ∷ xs) (y ∷ ys) long at all = (
  at 0 x (omega arith) ∙ all.0,
  all_stay s xs ys (omega (arith, long)) (λ i d below. at (suc i) d (omega (arith, below))) all.1,
)

pub for_each_mut-requires-send-T : goal.for_each_mut-requires-send-T
for_each_mut-requires-send-T g c κs within = search (sendable, producer_send) depth 9

pub returns : goal.returns
returns g c = λ s own.
    let xs = c.args.producers.now.items in
    let ys = c.for_each_mut.new.s in
    let value = c.as_mut_slice.ensures.value in
    let same : length ys ≡ length xs = c.for_each_mut.auto.s ∙ ap (λ (l : List ProducerView). length l) value in
    let at : (i : ℕ) (d : ProducerView) → i < length xs → (slice_index_or ys i d).shared ≡ (slice_index_or xs i d).shared =
    λ i d below.
    let did = (c.for_each_mut.ensures i d (omega (arith, below, same, c.for_each_mut.auto.s))).1 in
    let now = did.argument_is ∙ ap (λ (l : List ProducerView). slice_index_or l i d) value in
    ap (λ (p : ProducerView). p.shared) (sym did.left) ∙ did.call ∙ ap (λ (p : ProducerView). p.shared) now in
    subst (λ (l : List ProducerView). AllByRecursion (λ (p : ProducerView). p.shared ≡ s) l)
    (sym (refill c.args.producers.now.len xs ys (omega (arith, same, c.args.producers.now.ok.0)) (sym same))) (all_stay s xs ys same at own)
