use Rattle.std.proofs.Common.{◌++◌, ◌∷◌, [], List, length, length-append, ap, sym, subst, ◌∙◌, arith}
use Rattle.std.specs.Vec.Iter.{into_iter_items}
use Rattle.alog_core.proofs.SharedCalls.{given_front, all_given}
use Rattle.alog_pool.specs.SinkSeat.{SinkSeatView}
use Rattle.alog_pool.specs.Places.{Each2, IsFirst}
use Rattle.alog_pool.proofs.SharedSharing.{each2_length, each2_more}
use Rattle.alog_pool.proofs.pool_parts.sink_seats_of.Goals as goal
use Rattle.alog_sink.specs.declared.sink.Sink.{Sink}

pub push_reserved-requires : goal.push_reserved-requires
push_reserved-requires g c =
    let yielded = c.loop-sink.yielded in
    let front = given_front c.into_iter-sink-iterator.result yielded c.loop-sink.sink-iterator c.loop-sink.yielded_by in
    let more = ap length (sym c.into_iter-sink-iterator.ensures.into_iter_gives.0 ∙ front)
    ∙ length-append yielded (into_iter_items c.loop-sink.sink-iterator) in
    let first = ap length c.in-Some.ensures.steps.0 in
    let so_far = each2_length (IsFirst c.args.text_limit) yielded c.loop-sink.sink_seats.items c.loop-sink.invariant.0 in
    let room = c.loop-sink.invariant.1 in
    omega (arith, more, first, so_far, room, c.loop-sink.sink_seats.ok.0)

pub loop-sink-preserved : goal.loop-sink-preserved
loop-sink-preserved g c =
    let R : Sink g.row.S.Denot → SinkSeatView g.row.S.Denot → Type 0 = IsFirst c.args.text_limit in
    let room = c.loop-sink.invariant.1 in (
      subst (λ (l : List (SinkSeatView g.row.S.Denot)). Each2 R (c.loop-sink.yielded ++ c.in-Some.sink ∷ []) l) (sym c.push_reserved.ensures.items)
          (each2_more R c.loop-sink.yielded c.loop-sink.sink_seats.items c.in-Some.sink c.in_ok-first.field-0 c.loop-sink.invariant.0
          c.in_ok-first.ensures),
      omega (arith, room, c.push_reserved.ensures.capacity),
    )

pub returns : goal.returns
returns g c =
    let all = all_given c.into_iter-sink-iterator.result c.loop-sink.yielded c.loop-sink.sink-iterator c.loop-sink.yielded_by
    c.in-None.ensures.steps.0 in
    subst (λ (l : List (Sink g.row.S.Denot)). Each2 (IsFirst c.args.text_limit) l c.loop-sink.sink_seats.items)
    (sym all ∙ c.into_iter-sink-iterator.ensures.into_iter_gives.0) c.loop-sink.invariant.0
