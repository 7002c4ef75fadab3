use Rattle.std.proofs.Common.{◌≡◌, ◌<◌, ◌∙◌, ℕ, List, [], ◌∷◌, length, ap, sym, subst, arith}
use Rattle.std.proofs.lemmas.List.Elements.{All-nil, All-get_or, All-from_get_or}
use Rattle.std.specs.List.{All}
use Rattle.std.specs.Prelude.{slice_index_or}
use denote.Param.Send.{sendable}
use Rattle.alog_pool.specs.declared.shared.Shared.{Shared}
use Rattle.alog_server.proofs.SharedEnding.{refill}
use Rattle.bench.specs.declared.load.work.Task.{Task}
use Rattle.bench.proofs.TasksCross.{task_send}
use Rattle.bench.proofs.load.run.do_by_threads.Goals as goal

all_at : (P : Task → Type 0) (ts : List Task) → ((i : ℕ) (d : Task) → i < length ts → P (slice_index_or ts i d)) → All P ts
all_at P [] at = All-nil P
all_at P (t ∷ ts) at = All-from_get_or P (t ∷ ts) t (λ i below. at i t below)

pub for_each_mut-requires-send-T : goal.for_each_mut-requires-send-T
for_each_mut-requires-send-T g c κs within = search (sendable, task_send) depth 9

pub returns-clause-each : goal.returns-clause-each
returns-clause-each g c = λ s own.
    let xs = c.args.tasks.now.items in
    let ys = c.for_each_mut.new.s in
    let P : Task → Type 0 = λ t. t.producer.shared ≡ s in
    let value = c.as_mut_slice.ensures.value in
    let same : length ys ≡ length xs = c.for_each_mut.auto.s ∙ ap (λ (l : List Task). length l) value in
    let at : (i : ℕ) (d : Task) → i < length ys → P (slice_index_or ys i d) =
    λ i d below.
    let did = (c.for_each_mut.ensures i d (omega (arith, below, c.for_each_mut.auto.s))).1 in
    let now = did.argument_is ∙ ap (λ (l : List Task). slice_index_or l i d) value in
    ap (λ (t : Task). t.producer.shared) (sym did.left) ∙ did.call ∙ ap (λ (t : Task). t.producer.shared) now
    ∙ All-get_or P xs i d (omega (arith, below, same)) own in
    subst (λ (l : List Task). All P l)
    (sym (refill c.args.tasks.now.len xs ys (omega (arith, same, c.args.tasks.now.ok.0)) (sym same))) (all_at P ys at)
