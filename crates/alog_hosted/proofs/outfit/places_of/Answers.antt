use Rattle.std.proofs.Common.{◌++◌, ◌∷◌, [], List, length, length-append, ap, sym, subst, ◌∙◌, arith}
use Rattle.std.specs.Vec.Iter.{into_iter_items}
use Rattle.alog_core.proofs.SharedCalls.{given_front, all_given}
use Rattle.alog_hosted.proofs.Lanes.{mapped_length, mapped_more}
use Rattle.alog_pool.specs.Places.{Each2, IsFirst}
use Rattle.alog_pool.specs.Pool.{lanes_of}
use Rattle.alog_pool.specs.SinkSeat.{SinkSeatView}
use Rattle.alog_pool.proofs.SharedSharing.{each2_length, each2_more}
use Rattle.alog_hosted.proofs.outfit.places_of.Goals as goal
use Rattle.alog_sink.specs.declared.sink.Sink.{Sink}

pub push_reserved-requires : goal.push_reserved-requires
push_reserved-requires g c =
    let i = c.loop-sink.invariant in
    let yielded = c.loop-sink.yielded in
    let front = given_front c.into_iter-sink-iterator.result yielded c.loop-sink.sink-iterator c.loop-sink.yielded_by in
    let more = ap length (sym c.into_iter-sink-iterator.ensures.into_iter_gives.0 ∙ front)
    ∙ length-append yielded (into_iter_items c.loop-sink.sink-iterator) in
    let first = ap length c.in-Some.ensures.steps.0 in
    let so_far = each2_length (IsFirst c.args.text_limit) yielded c.loop-sink.places.items i.0 in
    let lanes = mapped_length (λ (b : SinkSeatView g.row.S.Denot). b.lane) c.loop-sink.places.items c.loop-sink.lanes.items i.1 in
    let room = i.3 in
    omega (arith, more, first, so_far, lanes, room, c.loop-sink.lanes.ok.0)

pub push_reserved-requires-in-loop-sink : goal.push_reserved-requires-in-loop-sink
push_reserved-requires-in-loop-sink g c =
    let i = c.loop-sink.invariant in
    let yielded = c.loop-sink.yielded in
    let front = given_front c.into_iter-sink-iterator.result yielded c.loop-sink.sink-iterator c.loop-sink.yielded_by in
    let more = ap length (sym c.into_iter-sink-iterator.ensures.into_iter_gives.0 ∙ front)
    ∙ length-append yielded (into_iter_items c.loop-sink.sink-iterator) in
    let first = ap length c.in-Some.ensures.steps.0 in
    let so_far = each2_length (IsFirst c.args.text_limit) yielded c.loop-sink.places.items i.0 in
    let room = i.2 in
    omega (arith, more, first, so_far, room, c.loop-sink.places.ok.0)

pub loop-sink-preserved : goal.loop-sink-preserved
loop-sink-preserved g c =
    let B = SinkSeatView g.row.S.Denot in
    let R : Sink g.row.S.Denot → B → Type 0 = IsFirst c.args.text_limit in
    let i = c.loop-sink.invariant in
    let first = c.in_ok-lane.ensures in
    let room = i.2 in
    let lane_room = i.3 in (
      subst (λ (l : List B). Each2 R (c.loop-sink.yielded ++ c.in-Some.sink ∷ []) l) (sym c.push_reserved-in-loop-sink.ensures.items)
          (each2_more R c.loop-sink.yielded c.loop-sink.places.items c.in-Some.sink c.in_ok-lane.place i.0 first.0),
      ap (λ (l : List B). lanes_of l) c.push_reserved-in-loop-sink.ensures.items
          ∙ mapped_more (λ (b : B). b.lane) c.loop-sink.places.items c.loop-sink.lanes.items c.in_ok-lane.place i.1 first.1
          ∙ sym c.push_reserved.ensures.items,
      omega (arith, room, c.push_reserved-in-loop-sink.ensures.capacity),
      omega (arith, lane_room, c.push_reserved.ensures.capacity),
    )

pub returns-clause-places : goal.returns-clause-places
returns-clause-places g c =
    let all = all_given c.into_iter-sink-iterator.result c.loop-sink.yielded c.loop-sink.sink-iterator c.loop-sink.yielded_by
    c.in-None.ensures.steps.0 in
    subst (λ (l : List (Sink g.row.S.Denot)). Each2 (IsFirst c.args.text_limit) l c.loop-sink.places.items)
    (sym all ∙ c.into_iter-sink-iterator.ensures.into_iter_gives.0) c.loop-sink.invariant.0
