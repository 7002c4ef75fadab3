use Rattle.std.proofs.Common.{◌≡◌, ◌<◌, ◌+◌, suc, List, [], ◌∷◌, ◌++◌, length, slice_set, ap, sym, subst, ◌∙◌, arith}
use Rattle.alog_hosted.proofs.Lanes.{mapped_next}
use Rattle.alog_pool.specs.SinkSeat.{SinkSeatView}
use Rattle.alog_pool.specs.Places.{IsPart}
use Rattle.alog_pool.proofs.SharedSharing.{Sharing, share_one, share_all, shared_lengths, shared_rest, shared_within}
use Rattle.alog_hosted.proofs.host.share_places.Goals as goal

pub split-requires-clause-lane : goal.split-requires-clause-lane
split-requires-clause-lane g c =
    let i = c.loop-number.invariant in
    let old = c.args.places.now.items in
    let new = c.loop-number.places.items in
    let given = c.loop-number.given.items in
    let long = (shared_lengths IsPart c.loop-number.number old new given i.shared).0 in
    let below = c.loop-number-test.true in
    let end = i.end in
    let lane = λ (b : SinkSeatView g.row.S.Denot). b.lane in
    c.index-lanes-number.is
    ∙ mapped_next lane IsPart c.loop-number.number old new given c.args.lanes.now c.index_mut.result.now c.index-lanes-number.result
    (omega (arith, long, below, end)) c.requires.lanes i.shared
    ∙ ap lane (sym c.index_mut.ensures.value)

pub split-requires-clause-spare : goal.split-requires-clause-spare
split-requires-clause-spare g c =
    let s = c.loop-number.invariant.shared in
    let old = c.args.places.now.items in
    let new = c.loop-number.places.items in
    let given = c.loop-number.given.items in
    let long = (shared_lengths IsPart c.loop-number.number old new given s).0 in
    let below = c.loop-number-test.true in
    let end = c.loop-number.invariant.end in
    subst (λ (b : SinkSeatView g.row.S.Denot). 1 < b.seat.known.parts) (sym c.index_mut.ensures.value)
    (shared_rest IsPart (λ (b : SinkSeatView g.row.S.Denot). 1 < b.seat.known.parts) c.loop-number.number old new given
    c.index_mut.result.now (omega (arith, long, below, end)) c.requires.parts s)

pub push_reserved-requires : goal.push_reserved-requires
push_reserved-requires g c =
    let long = (shared_lengths IsPart c.loop-number.number c.args.places.now.items c.loop-number.places.items c.loop-number.given.items
    c.loop-number.invariant.shared).1 in
    let below = c.loop-number-test.true in
    let end = c.loop-number.invariant.end in
    let room = c.loop-number.invariant.room in
    omega (arith, long, below, end, room, c.loop-number.given.ok.0)

pub loop-number-preserved : goal.loop-number-preserved
loop-number-preserved g c =
    let B = SinkSeatView g.row.S.Denot in
    let i = c.loop-number.number in
    let s = c.loop-number.invariant.shared in
    let old = c.args.places.now.items in
    let new = c.loop-number.places.items in
    let given = c.loop-number.given.items in
    let long = (shared_lengths IsPart i old new given s).0 in
    let below = c.loop-number-test.true in
    let end = c.loop-number.invariant.end in
    let next : suc i ≡ i + 1 = omega arith in
    let gave : IsPart _ c.split.new.self c.split.result =
    subst (λ (b : B). IsPart b c.split.new.self c.split.result) c.index_mut.ensures.value c.split.ensures in
    let room = c.loop-number.invariant.room in
    record {
      shared = subst (λ (l : List B). Sharing IsPart (i + 1) old (slice_set new i c.split.new.self) l) (sym c.push_reserved.ensures.items)
          (subst (λ n. Sharing IsPart n old (slice_set new i c.split.new.self) (given ++ c.split.result ∷ [])) next
          (share_one IsPart i old new given c.index_mut.result.now (omega (arith, long, below, end)) gave s));
      end = end;
      room = omega (arith, room, c.push_reserved.ensures.capacity);
    }

pub returns : goal.returns
returns g c =
    let s = c.loop-number.invariant.shared in
    let old = c.args.places.now.items in
    let new = c.loop-number.places.items in
    let given = c.loop-number.given.items in
    let within = shared_within IsPart c.loop-number.number old new given s in
    let past = c.loop-number-test.false in
    let end = c.loop-number.invariant.end in
    let all : c.loop-number.number ≡ length old = omega (arith, within, past, end) in
    share_all IsPart old new given (subst (λ n. Sharing IsPart n old new given) all s)
