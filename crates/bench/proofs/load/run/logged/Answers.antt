use Rattle.std.proofs.Common.{◌≡◌, List, [], ◌∷◌, sym, subst, arith}
use Rattle.std.proofs.lemmas.List.Elements.{All-head, All-tail}
use Rattle.std.specs.List.{All, AllByRecursion}
use Rattle.alog_pool.specs.Producer.{ProducerView}
use Rattle.alog_pool.specs.declared.shared.Shared.{Shared}
use Rattle.bench.proofs.load.run.logged.Goals as goal

one_by_one : (P : ProducerView → Type 0) (ps : List ProducerView) → All P ps → AllByRecursion P ps
one_by_one P [] all = tt
one_by_one P (p ∷ ps) all = (All-head P p ps all, one_by_one P ps (All-tail P p ps all))

pub returns-clause-own : goal.returns-clause-own
returns-clause-own g c =
    let s = c.args.pool.now.shared in
    let back = c.take_back-all.new.producers.items in
    subst (λ (z : Shared). AllByRecursion (λ (p : ProducerView). p.shared ≡ z) back) (sym c.add_tasks-made.ensures.pool)
    (one_by_one (λ (p : ProducerView). p.shared ≡ s) back
    (c.take_back-all.ensures.own s (c.do_by_threads.ensures.each s c.add_tasks-made.ensures.each)))

pub returns-clause-all : goal.returns-clause-all
returns-clause-all g c =
    omega (arith, c.take_back-all.ensures.count, c.do_by_threads.ensures.count, c.add_tasks-made.ensures.made, c.requires.fresh)
