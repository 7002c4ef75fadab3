use Rattle.std.specs.Prelude.{◌≡◌, ◌≤◌, ◌+◌, All, length, vec_capacity}
use Rattle.std.specs.Vec.Iter.{into_iter_items, into_iter_len}
use Rattle.alog_pool.specs.Producer.{ProducerView}
use Rattle.alog_pool.specs.declared.shared.Shared.{Shared}
use Rattle.bench.specs.declared.load.work.Task.{Task}
use Rattle.bench.proofs.load.run.take_back.Given as goal

abbrev pub decreases-loop-task : goal.decreases-loop-task
decreases-loop-task l = into_iter_len l.rest

abbrev pub invariant-loop-task : goal.invariant-loop-task
invariant-loop-task l = record {
  made : (s : Shared) → All (λ (t : Task). t.producer.shared ≡ s) l.fn.tasks.items → All (λ (p : ProducerView). p.shared ≡ s) l.producers.items;
  left : (s : Shared) → All (λ (t : Task). t.producer.shared ≡ s) l.fn.tasks.items
      → All (λ (t : Task). t.producer.shared ≡ s) (into_iter_items l.rest);
  count : length l.producers.items + length (into_iter_items l.rest) ≡ length l.fn.tasks.items;
  room : length l.fn.tasks.items ≤ vec_capacity l.producers;
}
