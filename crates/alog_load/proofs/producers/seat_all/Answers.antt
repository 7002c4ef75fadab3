use Rattle.std.proofs.Common.{false, List, [], ◌∷◌, length, length-append, refl, sym, ap, subst, ◌∙◌, arith}
use Rattle.alog_load.proofs.Going.{at_more, producers_at}
use Rattle.alog_load.specs.declared.load_seat.LoadSeat.{LoadSeat}
use Rattle.alog_server.proofs.SharedMaking.{makes_more}
use Rattle.alog_load.proofs.producers.seat_all.Goals as goal
use Rattle.alog_server.specs.Making.{MakesAll}
use Rattle.alog_pool.specs.Pool.{PoolView}
use Rattle.alog_pool.specs.Producer.{ProducerView}

pub loop-number-init : goal.loop-number-init
loop-number-init g c = record {
  makes = subst (λ (l : List LoadSeat). MakesAll c.args.pool.now (producers_at l) c.args.pool.now) (sym c.requires.room.0) refl;
  count = ap (λ (l : List LoadSeat). length l) c.requires.room.0;
  within = omega arith;
  room = c.requires.room.1;
}

pub push_reserved-requires : goal.push_reserved-requires
push_reserved-requires g c =
    let i = c.loop-number.invariant in
    let count = i.count in
    let room = i.room in
    let below = c.loop-number-test.true in
    omega (arith, count, room, below, c.loop-number.seats.ok.0)

pub loop-number-preserved : goal.loop-number-preserved
loop-number-preserved g c =
    let i = c.loop-number.invariant in
    let seats = c.loop-number.seats.items in
    let p = c.in-Ok.producer in
    let s : LoadSeat = record { producer = p; done = false } in
    let longer = ap (λ (l : List LoadSeat). length l) c.push_reserved.ensures.items ∙ length-append seats (s ∷ []) in
    let count = i.count in
    let below = c.loop-number-test.true in
    let room = i.room in
    record {
      makes = subst (λ (l : List LoadSeat). MakesAll c.args.pool.now (producers_at l) c.producer.new.self) (sym c.push_reserved.ensures.items)
          (subst (λ (l : List ProducerView). MakesAll c.args.pool.now l c.producer.new.self) (sym (at_more seats s))
          (makes_more c.args.pool.now c.loop-number.pool c.producer.new.self (producers_at seats) p i.makes c.in-Ok.ensures.made));
      count = omega (arith, longer, count);
      within = omega (arith, below);
      room = omega (arith, room, c.push_reserved.ensures.capacity);
    }

pub returns-in-Err-clause-makes : goal.returns-in-Err-clause-makes
returns-in-Err-clause-makes g c =
    subst (λ (q : PoolView g.row.S.Denot). MakesAll c.args.pool.now (producers_at c.loop-number.seats.items) q) (sym c.in-Err.ensures.err)
    c.loop-number.invariant.makes
