use Rattle.std.proofs.Common.{◌≡◌, ◌+◌, ℕ, List, [], ◌∷◌, ◌++◌, length, ap, sym, subst, ◌∙◌, arith, length-append}
use Rattle.std.specs.List.{All}
use Rattle.std.proofs.lemmas.List.Elements.{All-push}
use Rattle.bench.specs.declared.load.work.Task.{Task}
use Rattle.bench.proofs.load.run.add_tasks.Goals as goal

pub loop-made-preserved : goal.loop-made-preserved
loop-made-preserved g c =
    let P : Task → Type 0 = λ t. t.producer.shared ≡ c.args.pool.now.shared in
    let inv = c.loop-made.invariant in
    let makes = c.in_ok-producer.ensures.made in
    let items = c.push_reserved.ensures.items in
    let old : List Task = c.loop-made.tasks.items in
    let task : Task = record {
      producer = c.in_ok-producer.field-0;
      order = c.args.case.now.order;
      times = c.in_ok-times.times;
      failed = 0;
    } in
    let longer : length c.push_reserved.new.self.items ≡ length old + 1 =
    ap (λ (l : List Task). length l) items ∙ length-append old (task ∷ []) in
    record {
      pool = makes.same.0 ∙ inv.pool;
      each = subst (λ (l : List Task). All P l) (sym items) (All-push P old task inv.each (makes.shared ∙ inv.pool));
      count = omega (arith, longer, inv.count);
      made = omega (arith, makes.made, inv.made);
      room = omega (arith, c.push_reserved.ensures.capacity, inv.room);
    }
