use Rattle.std.proofs.Common.{◌≡◌, true, false, List, length, sym, ap, subst, ◌∙◌, arith}
use Rattle.std.proofs.lemmas.List.{length-map}
use Rattle.alog_load.proofs.Going.{goes_length, goes_own, have_loggers, producers_at, served_all}
use Rattle.alog_load.specs.Load.{HasServed}
use Rattle.alog_load.specs.declared.load_seat.LoadSeat.{LoadSeat}
use Rattle.alog_load.proofs.producers.run_all.Goals as goal
use Rattle.alog_pool.specs.Places.{Each2}
use Rattle.alog_pool.specs.Producer.{ProducerView}
use Rattle.alog_server.proofs.SharedMaking.{makes_shared}
use Rattle.alog_server.specs.Making.{AreOf}

pub returns-then-not-seat_all : goal.returns-then-not-seat_all
returns-then-not-seat_all g c =
    let seats = c.seat_all.new.seats.items in
    let shared = makes_shared c.args.pool.now c.seat_all.new.pool (producers_at seats) c.seat_all.ensures.makes in
    record {
      begun = producers_at seats;
      makes = c.seat_all.ensures.makes;
      many = ap (λ (l : List ProducerView). length l) c.rise_all.ensures.back;
      own = subst (λ (l : List ProducerView). AreOf c.args.pool.now.shared l) (sym c.rise_all.ensures.back) shared.1;
      each = λ t. let wrong : false ≡ true = t in absurd (cc);
    }

pub go_all-requires-clause-known : goal.go_all-requires-clause-known
go_all-requires-clause-known g c κs within =
    let seats = c.seat_all.new.seats.items in
    have_loggers c.args.pool.now.shared c.args.loggers seats c.requires.loggers.0
    (makes_shared c.args.pool.now c.seat_all.new.pool (producers_at seats) c.seat_all.ensures.makes).1

pub rise_all-done-requires : goal.rise_all-done-requires
rise_all-done-requires g c =
    let same = goes_length c.args.loggers c.args.messages c.seat_all.new.seats.items c.go_all.new.seats.items c.go_all.ensures in
    record {
      room = (c.in-Ok.ensures.items, omega (arith, same, c.seat_all.ensures.few, c.in-Ok.ensures.capacity));
    }

pub returns : goal.returns
returns g c =
    let xs = c.seat_all.new.seats.items in
    let ys = c.go_all.new.seats.items in
    let s = c.args.pool.now.shared in
    let goes = c.go_all.ensures in
    let back = c.rise_all-done.ensures.back in
    let producer = λ (x : LoadSeat). x.producer in
    let shared = makes_shared c.args.pool.now c.seat_all.new.pool (producers_at xs) c.seat_all.ensures.makes in
    record {
      begun = producers_at xs;
      makes = c.seat_all.ensures.makes;
      many = ap (λ (l : List ProducerView). length l) back ∙ length-map ys producer
          ∙ goes_length c.args.loggers c.args.messages xs ys goes ∙ sym (length-map xs producer);
      own = subst (λ (l : List ProducerView). AreOf s l) (sym back)
          (goes_own c.args.loggers c.args.messages s xs ys goes shared.1);
      each = λ t. (
        length-map xs producer ∙ c.seat_all.ensures.many c.if-not-seat_all.false,
        subst (λ (l : List ProducerView). Each2 (HasServed c.args.loggers c.args.messages) (producers_at xs) l) (sym back)
            (served_all c.args.loggers c.args.messages xs ys goes (c.rise_all-done.ensures.done t)),
      );
    }
