use Rattle.std.proofs.Common.{◌≡◌, true, false, List, [], ◌∷◌, ◌++◌, length, length-append, append_assoc, sym, ap, subst, ◌∙◌, arith}
use Rattle.std.proofs.lemmas.List.{length-map}
use Rattle.std.specs.Vec.Iter.{into_iter_items}
use Rattle.alog_core.proofs.SharedCalls.{no_more}
use Rattle.alog_load.proofs.Going.{at_more, producers_at}
use Rattle.alog_load.specs.Producers.{AreDone}
use Rattle.alog_load.specs.declared.load_seat.LoadSeat.{LoadSeat}
use Rattle.alog_load.proofs.producers.rise_all.Goals.{then-all, else-all}
use Rattle.alog_load.proofs.producers.rise_all.Goals as goal
use Rattle.alog_pool.proofs.SharedSharing.{all_more}
use Rattle.alog_pool.specs.Producer.{ProducerView}

pub loop-seat-init : goal.loop-seat-init
loop-seat-init c = record {
  up = [];
  front = sym c.into_iter-rest.ensures.rest;
  back = c.requires.room.0;
  done = λ t. tt;
  room = c.requires.room.1;
}

pub push_reserved-requires : goal.push_reserved-requires
push_reserved-requires c =
    let i = c.loop-seat.invariant in
    let s = c.in-Some.seat in
    let new = into_iter_items c.next.new.self in
    let front = i.front ∙ ap (λ (l : List LoadSeat). i.up ++ l) c.in-Some.ensures.items in
    let whole = ap (λ (l : List LoadSeat). length l) front ∙ length-append i.up (s ∷ new) in
    let held = ap (λ (l : List ProducerView). length l) i.back ∙ length-map i.up (λ (x : LoadSeat). x.producer) in
    let room = i.room in
    omega (arith, whole, held, room, c.loop-seat.back.ok.0)

pub loop-seat-preserved : goal.loop-seat-preserved
loop-seat-preserved c =
    let i = c.loop-seat.invariant in
    let s = c.in-Some.seat in
    let new = into_iter_items c.next.new.self in
    record {
      up = i.up ++ s ∷ [];
      front = i.front ∙ ap (λ (l : List LoadSeat). i.up ++ l) c.in-Some.ensures.items ∙ sym (append_assoc i.up (s ∷ []) new);
      back = c.push_reserved.ensures.items ∙ ap (λ (l : List ProducerView). l ++ s.producer ∷ []) i.back ∙ sym (at_more i.up s);
      done = λ t.
          elim c.if-all.branch [
            | then-all w ↦ all_more (λ (x : LoadSeat). x.done ≡ true) i.up s (i.done w.if-all.true) (sym w.all-is ∙ t)
            | else-all w ↦ let wrong : false ≡ true = sym w.if-all.false ∙ sym w.all-is ∙ t in cc
          ];
      room = (let room = i.room in omega (arith, room, c.push_reserved.ensures.capacity));
    }

pub returns-clause-back : goal.returns-clause-back
returns-clause-back c =
    let i = c.loop-seat.invariant in
    let whole = i.front ∙ no_more i.up (into_iter_items c.loop-seat.rest)
    (omega (arith, c.in_default.ensures.cases.0, c.loop-seat.rest.rest.ok.0)) in
    i.back ∙ ap producers_at (sym whole)

pub returns-clause-done : goal.returns-clause-done
returns-clause-done c = λ t.
    let i = c.loop-seat.invariant in
    let whole = i.front ∙ no_more i.up (into_iter_items c.loop-seat.rest)
    (omega (arith, c.in_default.ensures.cases.0, c.loop-seat.rest.rest.ok.0)) in
    subst AreDone (sym whole) (i.done t)
