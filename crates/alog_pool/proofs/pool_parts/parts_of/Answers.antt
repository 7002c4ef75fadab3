use Rattle.std.proofs.Common.{◌≡◌, ◌<◌, ◌+◌, suc, List, [], ◌∷◌, ◌++◌, length, slice_set, sym, subst, arith}
use Rattle.alog_pool.specs.SinkSeat.{SinkSeatView}
use Rattle.alog_pool.specs.Places.{IsPart}
use Rattle.alog_pool.proofs.SharedSharing.{Sharing, share_one, share_all, shared_lengths, shared_rest, shared_within}
use Rattle.alog_pool.proofs.pool_parts.parts_of.Goals as goal

pub split-requires : goal.split-requires
split-requires g c =
    let s = c.loop-place.invariant.shared in
    let old = c.args.sink_seats.now.items in
    let new = c.loop-place.sink_seats.items in
    let given = c.loop-place.parts.items in
    let long = (shared_lengths IsPart c.loop-place.place old new given s).0 in
    let below = c.loop-place-test.true in
    let end = c.loop-place.invariant.end in
    record {
      spare = subst (λ (b : SinkSeatView g.row.S.Denot). 1 < b.seat.known.parts) (sym c.index_mut.ensures.value)
          (shared_rest IsPart (λ (b : SinkSeatView g.row.S.Denot). 1 < b.seat.known.parts) c.loop-place.place old new given
          c.index_mut.result.now (omega (arith, long, below, end)) c.requires s);
    }

pub push_reserved-requires : goal.push_reserved-requires
push_reserved-requires g c =
    let long = (shared_lengths IsPart c.loop-place.place c.args.sink_seats.now.items c.loop-place.sink_seats.items c.loop-place.parts.items
    c.loop-place.invariant.shared).1 in
    let below = c.loop-place-test.true in
    let end = c.loop-place.invariant.end in
    let room = c.loop-place.invariant.room in
    omega (arith, long, below, end, room, c.loop-place.parts.ok.0)

pub loop-place-preserved : goal.loop-place-preserved
loop-place-preserved g c =
    let B = SinkSeatView g.row.S.Denot in
    let i = c.loop-place.place in
    let s = c.loop-place.invariant.shared in
    let old = c.args.sink_seats.now.items in
    let new = c.loop-place.sink_seats.items in
    let given = c.loop-place.parts.items in
    let long = (shared_lengths IsPart i old new given s).0 in
    let below = c.loop-place-test.true in
    let end = c.loop-place.invariant.end in
    let next : suc i ≡ i + 1 = omega arith in
    let gave : IsPart _ c.split.new.self c.in_ok-split.field-0 =
    subst (λ (b : B). IsPart b c.split.new.self c.in_ok-split.field-0) c.index_mut.ensures.value c.in_ok-split.ensures.given in
    let room = c.loop-place.invariant.room in
    record {
      shared = subst (λ (l : List B). Sharing IsPart (i + 1) old (slice_set new i c.split.new.self) l) (sym c.push_reserved.ensures.items)
          (subst (λ n. Sharing IsPart n old (slice_set new i c.split.new.self) (given ++ c.in_ok-split.field-0 ∷ [])) next
          (share_one IsPart i old new given c.index_mut.result.now (omega (arith, long, below, end)) gave s));
      end = end;
      room = omega (arith, room, c.push_reserved.ensures.capacity);
    }

pub returns : goal.returns
returns g c =
    let s = c.loop-place.invariant.shared in
    let old = c.args.sink_seats.now.items in
    let new = c.loop-place.sink_seats.items in
    let given = c.loop-place.parts.items in
    let within = shared_within IsPart c.loop-place.place old new given s in
    let past = c.loop-place-test.false in
    let end = c.loop-place.invariant.end in
    let all : c.loop-place.place ≡ length old = omega (arith, within, past, end) in
    share_all IsPart old new given (subst (λ n. Sharing IsPart n old new given) all s)
