use Rattle.std.proofs.Common.{List, [], ◌∷◌, length, length-append, ap, sym, subst, ◌∙◌, arith}
use Rattle.std.proofs.lemmas.List.Elements.{All-head, All-tail, All-push}
use Rattle.std.specs.List.{All}
use Rattle.std.specs.Prelude.{◌≡◌}
use Rattle.std.specs.Vec.Iter.{into_iter_items}
use Rattle.alog_pool.specs.Producer.{ProducerView}
use Rattle.alog_pool.specs.declared.shared.Shared.{Shared}
use Rattle.bench.specs.declared.load.work.Task.{Task}
use Rattle.bench.proofs.load.run.take_back.Goals as goal

pub loop-task-preserved : goal.loop-task-preserved
loop-task-preserved c =
    let i = c.loop-task.invariant in
    let task = c.in-Some.task in
    let new = into_iter_items c.next.new.self in
    let of : Shared → Task → Type 0 = λ s t. t.producer.shared ≡ s in
    let longer = ap (λ (l : List ProducerView). length l) c.push_reserved.ensures.items
    ∙ length-append c.loop-task.producers.items (task.producer ∷ []) in
    let one = ap (λ (l : List Task). length l) c.in-Some.ensures.items in
    record {
      made = λ s own.
          let left = subst (λ (l : List Task). All (of s) l) c.in-Some.ensures.items (i.left s own) in
          subst (λ (l : List ProducerView). All (λ (p : ProducerView). p.shared ≡ s) l) (sym c.push_reserved.ensures.items)
          (All-push (λ (p : ProducerView). p.shared ≡ s) c.loop-task.producers.items task.producer (i.made s own)
          (All-head (of s) task new left));
      left = λ s own. All-tail (of s) task new (subst (λ (l : List Task). All (of s) l) c.in-Some.ensures.items (i.left s own));
      count = omega (arith, longer, one, i.count);
      room = omega (arith, i.room, c.push_reserved.ensures.capacity);
    }
