use Rattle.std.proofs.Common.{◌≡◌, List, [], ◌∷◌, ◌++◌, length, length-append, ap, sym, subst, ◌∙◌, arith}
use Rattle.std.specs.List.{AllByRecursion}
use Rattle.std.specs.Vec.Iter.{into_iter_items}
use Rattle.alog_core.proofs.SharedCalls.{given_front}
use Rattle.alog_lane.specs.declared.seat.TheConstants.{ALL_PARTS}
use Rattle.alog_pool.specs.SinkSeat.{SinkSeatView}
use Rattle.alog_pool.specs.Collected.{IsClosing}
use Rattle.alog_pool.specs.Places.{Each3}
use Rattle.alog_pool.proofs.SharedParts.{each3_lengths}
use Rattle.alog_pool.proofs.SharedSharing.{all_next, each3_more}
use Rattle.alog_pool.proofs.shutdown.close_sink_seats.Goals as goal

pub push_reserved-requires : goal.push_reserved-requires
push_reserved-requires g c =
    let yielded = c.loop-sink_seat.yielded in
    let front = given_front c.into_iter-sink_seat-iterator.result yielded c.loop-sink_seat.sink_seat-iterator c.loop-sink_seat.yielded_by in
    let more = ap length (sym c.into_iter-sink_seat-iterator.ensures.into_iter_gives.0 ∙ front)
    ∙ length-append yielded (into_iter_items c.loop-sink_seat.sink_seat-iterator) in
    let first = ap length c.in-Some.ensures.steps.0 in
    let made = (each3_lengths _ yielded c.loop-sink_seat.sinks.items c.loop-sink_seat.faults.items c.loop-sink_seat.invariant.each).1 in
    let room = c.loop-sink_seat.invariant.faults_room in
    omega (arith, more, first, made, room, c.loop-sink_seat.faults.ok.0)

pub close-requires : goal.close-requires
close-requires g c =
    let yielded = c.loop-sink_seat.yielded in
    let B : Type 0 = SinkSeatView g.row.S.Denot in
    let P : B → Type 0 = λ b. b.seat.known.parts ≡ ALL_PARTS in
    let front = given_front c.into_iter-sink_seat-iterator.result yielded c.loop-sink_seat.sink_seat-iterator c.loop-sink_seat.yielded_by in
    let all = sym c.into_iter-sink_seat-iterator.ensures.into_iter_gives.0 ∙ front ∙ ap (λ (l : List B). yielded ++ l) c.in-Some.ensures.steps.0 in
    record { all = all_next P yielded c.in-Some.sink_seat _ (subst (λ (l : List B). AllByRecursion P l) all c.requires.all) }

pub push_reserved-requires-in-loop-sink_seat : goal.push_reserved-requires-in-loop-sink_seat
push_reserved-requires-in-loop-sink_seat g c =
    let yielded = c.loop-sink_seat.yielded in
    let front = given_front c.into_iter-sink_seat-iterator.result yielded c.loop-sink_seat.sink_seat-iterator c.loop-sink_seat.yielded_by in
    let more = ap length (sym c.into_iter-sink_seat-iterator.ensures.into_iter_gives.0 ∙ front)
    ∙ length-append yielded (into_iter_items c.loop-sink_seat.sink_seat-iterator) in
    let first = ap length c.in-Some.ensures.steps.0 in
    let made = (each3_lengths _ yielded c.loop-sink_seat.sinks.items c.loop-sink_seat.faults.items c.loop-sink_seat.invariant.each).0 in
    let room = c.loop-sink_seat.invariant.sinks_room in
    omega (arith, more, first, made, room, c.loop-sink_seat.sinks.ok.0)

pub loop-sink_seat-preserved : goal.loop-sink_seat-preserved
loop-sink_seat-preserved g c =
    let R = IsClosing g.S.Store.tells g.S.Store.files g.S.Store.failures in
    let yielded = c.loop-sink_seat.yielded ++ c.in-Some.sink_seat ∷ [] in
    let faults = c.push_reserved.new.self.items in
    let faults_room = c.loop-sink_seat.invariant.faults_room in
    let sinks_room = c.loop-sink_seat.invariant.sinks_room in
    let one : R c.in-Some.sink_seat c.close.result c.sink_seat.inside.faults =
    record { closes = c.close.ensures; faults_are = ap (λ b. b.faults) c.sink_seat.view_is } in
    record {
      each = subst (λ l. Each3 R yielded l faults) (sym c.push_reserved-in-loop-sink_seat.ensures.items)
          (subst (λ l. Each3 R yielded (c.loop-sink_seat.sinks.items ++ c.close.result ∷ []) l) (sym c.push_reserved.ensures.items)
          (each3_more R c.loop-sink_seat.yielded c.loop-sink_seat.sinks.items c.loop-sink_seat.faults.items c.loop-sink_seat.invariant.each
          one));
      faults_room = omega (arith, faults_room, c.push_reserved.ensures.capacity);
      sinks_room = omega (arith, sinks_room, c.push_reserved-in-loop-sink_seat.ensures.capacity);
    }
