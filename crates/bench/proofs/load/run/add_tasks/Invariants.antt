use Rattle.std.specs.Prelude.{◌≡◌, ◌≤◌, ◌+◌, All, length, vec_capacity}
use Rattle.bench.specs.declared.load.work.Task.{Task}
use Rattle.bench.proofs.load.run.add_tasks.Given as goal

abbrev pub invariant-loop-made : goal.invariant-loop-made
invariant-loop-made g l = record {
  pool : l.pool.shared ≡ l.fn.pool.shared;
  each : All (λ (t : Task). t.producer.shared ≡ l.fn.pool.shared) l.tasks.items;
  count : length l.tasks.items ≡ l._made;
  made : l.pool.made ≡ l.fn.pool.made + l._made;
  room : l.fn.case.producers ≤ vec_capacity l.tasks;
}
