use Rattle.std.proofs.Common.{List, [], ◌∷◌, length, length-append, refl, sym, ap, subst, ◌∙◌, arith}
use Rattle.alog_server.proofs.SharedMaking.{makes_more}
use Rattle.alog_server.proofs.producers.make.Goals as goal
use Rattle.alog_server.specs.Making.{MakesAll}
use Rattle.alog_pool.specs.Pool.{PoolView}
use Rattle.alog_pool.specs.Producer.{ProducerView}

pub loop-number-init : goal.loop-number-init
loop-number-init g c = record {
  makes = subst (λ (l : List ProducerView). MakesAll c.args.pool.now l c.args.pool.now) (sym c.requires.room.0) refl;
  count = ap (λ (l : List ProducerView). length l) c.requires.room.0;
  within = omega arith;
  room = c.requires.room.1;
}

pub push_reserved-requires : goal.push_reserved-requires
push_reserved-requires g c =
    let i = c.loop-number.invariant in
    let count = i.count in
    let room = i.room in
    let below = c.loop-number-test.true in
    omega (arith, count, room, below, c.loop-number.producers.ok.0)

pub loop-number-preserved : goal.loop-number-preserved
loop-number-preserved g c =
    let i = c.loop-number.invariant in
    let ps = c.loop-number.producers.items in
    let p = c.in-Ok.producer in
    let longer = ap (λ (l : List ProducerView). length l) c.push_reserved.ensures.items ∙ length-append ps (p ∷ []) in
    let count = i.count in
    let below = c.loop-number-test.true in
    let room = i.room in
    record {
      makes = subst (λ (l : List ProducerView). MakesAll c.args.pool.now l c.producer.new.self) (sym c.push_reserved.ensures.items)
          (makes_more c.args.pool.now c.loop-number.pool c.producer.new.self ps p i.makes c.in-Ok.ensures.made);
      count = omega (arith, longer, count);
      within = omega (arith, below);
      room = omega (arith, room, c.push_reserved.ensures.capacity);
    }

pub returns-in-Err-clause-makes : goal.returns-in-Err-clause-makes
returns-in-Err-clause-makes g c =
    subst (λ (q : PoolView g.row.S.Denot). MakesAll c.args.pool.now c.loop-number.producers.items q) (sym c.in-Err.ensures.err)
    c.loop-number.invariant.makes
