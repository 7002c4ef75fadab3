use Rattle.std.proofs.Common.{◌≡◌, ◌<◌, List, [], ◌∷◌, length, length-append, refl, ap, sym, subst, ◌∙◌, arith}
use Rattle.std.specs.Prelude.{slice_index_or}
use Rattle.std.specs.List.{AllByRecursion}
use Rattle.std.specs.Vec.Iter.{into_iter_items}
use Rattle.alog_core.proofs.SharedCalls.{all_given}
use Rattle.alog_hosted.specs.Closing.{EndAll}
use Rattle.alog_lane.specs.Calls.{LaneId}
use Rattle.alog_lane.specs.declared.seat.TheConstants.{ALL_PARTS as ALL_SEATS}
use Rattle.alog_pool.specs.Pool.{lanes_of}
use Rattle.alog_pool.specs.SinkSeat.{SinkSeatView}
use Rattle.alog_pool.proofs.SharedSharing.{all_next}
use Rattle.alog_hosted.proofs.Closings.{Ending, EndsOne, capped, ending_all, ending_lengths, ending_next, front_below, front_next, given_next, lanes_length, lanes_meet, lanes_more}
use Rattle.alog_hosted.proofs.disband.end_places.Goals as goal
use Rattle.alog_sink.specs.declared.sink.Sink.{Sink}

pub loop-place-init : goal.loop-place-init
loop-place-init g c =
    let S = g.row.S.Denot in
    let E = Ending g.S.Store.tells g.S.Store.files g.S.Store.failures in
    let faults = c.args.faults.now.items in
    record {
      ending = subst (λ (l : List (Sink S)). E [] faults l faults) (sym c.requires.sinks.0) refl;
      number_is = refl;
      lanes_are = sym c.into_iter-lanes.ensures.rest;
      line_is = c.requires.line;
      room = c.requires.sinks.1;
    }

pub unreachable-requires : goal.unreachable-requires
unreachable-requires g c =
    let B : Type 0 = SinkSeatView g.row.S.Denot in
    let L : Type 0 = LaneId (Sink g.row.S.Denot) in
    let yielded = c.loop-place.yielded in
    let all = given_next {X = B} c.args.places.items c.into_iter-place-iterator.result yielded c.loop-place.place-iterator c.in-Some.place
    (into_iter_items c.next.new.self) c.into_iter-place-iterator.ensures.into_iter_gives.0 c.loop-place.yielded_by c.in-Some.ensures.steps.0 in
    let below = front_below {X = B} c.args.places.items yielded c.in-Some.place (into_iter_items c.next.new.self) all in
    let even = lanes_length c.args.places.items c.args.lanes.items c.requires.lanes in
    let done = lanes_length yielded (lanes_of yielded) refl in
    let lanes = ap (λ (l : List L). length l) c.loop-place.invariant.lanes_are
    ∙ length-append (lanes_of yielded) (into_iter_items c.loop-place.lanes) in
    let none = c.in_default.ensures.cases.0 in
    absurd (omega (arith, below, even, done, lanes, none, c.loop-place.lanes.rest.ok.0))

pub end-sink-requires-clause-lane : goal.end-sink-requires-clause-lane
end-sink-requires-clause-lane g c =
    let B : Type 0 = SinkSeatView g.row.S.Denot in
    let L : Type 0 = LaneId (Sink g.row.S.Denot) in
    let yielded = c.loop-place.yielded in
    let all = given_next {X = B} c.args.places.items c.into_iter-place-iterator.result yielded c.loop-place.place-iterator c.in-Some.place
    (into_iter_items c.next.new.self) c.into_iter-place-iterator.ensures.into_iter_gives.0 c.loop-place.yielded_by c.in-Some.ensures.steps.0 in
    lanes_meet c.args.places.items c.args.lanes.items yielded c.in-Some.place (into_iter_items c.next.new.self)
    (into_iter_items c.loop-place.lanes) c.in-Some-next.lane (into_iter_items c.next-in-loop-place.new.self) all c.requires.lanes
    c.loop-place.invariant.lanes_are c.in-Some-next.ensures.items

pub end-sink-requires-clause-all : goal.end-sink-requires-clause-all
end-sink-requires-clause-all g c =
    let B : Type 0 = SinkSeatView g.row.S.Denot in
    let P : B → Type 0 = λ b. b.seat.known.parts ≡ ALL_SEATS in
    let yielded = c.loop-place.yielded in
    let all = given_next {X = B} c.args.places.items c.into_iter-place-iterator.result yielded c.loop-place.place-iterator c.in-Some.place
    (into_iter_items c.next.new.self) c.into_iter-place-iterator.ensures.into_iter_gives.0 c.loop-place.yielded_by c.in-Some.ensures.steps.0 in
    all_next P yielded c.in-Some.place _ (subst (λ (l : List B). AllByRecursion P l) all c.requires.alone)

pub end-sink-requires-clause-line : goal.end-sink-requires-clause-line
end-sink-requires-clause-line g c = c.loop-place.invariant.line_is

pub index-requires : goal.index-requires
index-requires g c =
    let B : Type 0 = SinkSeatView g.row.S.Denot in
    let E = ending_lengths g.S.Store.tells g.S.Store.files g.S.Store.failures in
    let yielded = c.loop-place.yielded in
    let i = c.loop-place.invariant in
    let all = given_next {X = B} c.args.places.items c.into_iter-place-iterator.result yielded c.loop-place.place-iterator c.in-Some.place
    (into_iter_items c.next.new.self) c.into_iter-place-iterator.ensures.into_iter_gives.0 c.loop-place.yielded_by c.in-Some.ensures.steps.0 in
    let below = front_below {X = B} c.args.places.items yielded c.in-Some.place (into_iter_items c.next.new.self) all in
    let long = (E yielded c.args.faults.now.items c.loop-place.sinks.items c.loop-place.faults.items i.ending).1 in
    let at = i.number_is in
    let many = c.requires.faults in
    omega (arith, below, long, at, many, c.loop-place.faults.ok.0)

pub index_mut-requires : goal.index_mut-requires
index_mut-requires g c =
    let B : Type 0 = SinkSeatView g.row.S.Denot in
    let E = ending_lengths g.S.Store.tells g.S.Store.files g.S.Store.failures in
    let yielded = c.loop-place.yielded in
    let i = c.loop-place.invariant in
    let all = given_next {X = B} c.args.places.items c.into_iter-place-iterator.result yielded c.loop-place.place-iterator c.in-Some.place
    (into_iter_items c.next.new.self) c.into_iter-place-iterator.ensures.into_iter_gives.0 c.loop-place.yielded_by c.in-Some.ensures.steps.0 in
    let below = front_below {X = B} c.args.places.items yielded c.in-Some.place (into_iter_items c.next.new.self) all in
    let long = (E yielded c.args.faults.now.items c.loop-place.sinks.items c.loop-place.faults.items i.ending).1 in
    let at = i.number_is in
    let many = c.requires.faults in
    omega (arith, below, long, at, many, c.loop-place.faults.ok.0)

pub push_reserved-requires : goal.push_reserved-requires
push_reserved-requires g c =
    let B : Type 0 = SinkSeatView g.row.S.Denot in
    let E = ending_lengths g.S.Store.tells g.S.Store.files g.S.Store.failures in
    let yielded = c.loop-place.yielded in
    let i = c.loop-place.invariant in
    let all = given_next {X = B} c.args.places.items c.into_iter-place-iterator.result yielded c.loop-place.place-iterator c.in-Some.place
    (into_iter_items c.next.new.self) c.into_iter-place-iterator.ensures.into_iter_gives.0 c.loop-place.yielded_by c.in-Some.ensures.steps.0 in
    let below = front_below {X = B} c.args.places.items yielded c.in-Some.place (into_iter_items c.next.new.self) all in
    let made = (E yielded c.args.faults.now.items c.loop-place.sinks.items c.loop-place.faults.items i.ending).0 in
    let room = i.room in
    omega (arith, below, made, room, c.loop-place.sinks.ok.0)

pub loop-place-preserved : goal.loop-place-preserved
loop-place-preserved g c =
    let S = g.row.S.Denot in
    let B : Type 0 = SinkSeatView S in
    let L : Type 0 = LaneId (Sink S) in
    let F = EndsOne g.S.Store.tells g.S.Store.files g.S.Store.failures in
    let yielded = c.loop-place.yielded in
    let place = c.in-Some.place in
    let lane = c.in-Some-next.lane in
    let still = into_iter_items c.next-in-loop-place.new.self in
    let i = c.loop-place.invariant in
    let number = c.loop-place.number in
    let old = c.args.faults.now.items in
    let faults = c.loop-place.faults.items in
    let sinks = c.loop-place.sinks.items in
    let sink = c.end-sink.result.0 in
    let sum = c.saturating_add.result in
    let all = given_next {X = B} c.args.places.items c.into_iter-place-iterator.result yielded c.loop-place.place-iterator c.in-Some.place
    (into_iter_items c.next.new.self) c.into_iter-place-iterator.ensures.into_iter_gives.0 c.loop-place.yielded_by c.in-Some.ensures.steps.0 in
    let below = front_below {X = B} c.args.places.items yielded place (into_iter_items c.next.new.self) all in
    let long = (ending_lengths g.S.Store.tells g.S.Store.files g.S.Store.failures yielded old sinks faults i.ending).1 in
    let many = c.requires.faults in
    let low : length yielded < length faults = omega (arith, below, long, many) in
    let same : lane ≡ place.lane = lanes_meet c.args.places.items c.args.lanes.items yielded place (into_iter_items c.next.new.self)
    (into_iter_items c.loop-place.lanes) lane still all c.requires.lanes i.lanes_are c.in-Some-next.ensures.items in
    let at : number ≡ length yielded = i.number_is in
    let ends : F place (slice_index_or faults number c.index.result.now) sink sum = (
      c.end-sink.result.1,
      c.end-sink.ensures.ends,
      capped sum c.index.result.now (slice_index_or faults number c.index.result.now) c.end-sink.result.1
          c.saturating_add.ensures c.index.ensures,
    ) in
    let next = length-append yielded (place ∷ []) in
    let room = i.room in
    record {
      ending = ending_next g.S.Store.tells g.S.Store.files g.S.Store.failures yielded old sinks c.push_reserved.new.self.items faults place sink
          c.index.result.now sum number at low c.push_reserved.ensures.items ends i.ending;
      number_is = omega (arith, at, next);
      lanes_are = front_next {X = L} c.args.lanes.items (lanes_of yielded) (into_iter_items c.loop-place.lanes) lane still i.lanes_are
          c.in-Some-next.ensures.items
          ∙ lanes_more yielded place lane still same;
      line_is = c.end-sink.ensures.line;
      room = omega (arith, room, c.push_reserved.ensures.capacity);
    }

pub returns : goal.returns
returns g c =
    let B : Type 0 = SinkSeatView g.row.S.Denot in
    let yielded = c.loop-place.yielded in
    let old = c.args.faults.now.items in
    let all = all_given c.into_iter-place-iterator.result yielded c.loop-place.place-iterator c.loop-place.yielded_by
    c.in-None.ensures.steps.0 in
    let same = sym all ∙ c.into_iter-place-iterator.ensures.into_iter_gives.0 in
    let many : length old ≡ length yielded = c.requires.faults ∙ sym (ap (λ (l : List B). length l) same) in
    subst (λ (l : List B). EndAll g.S.Store.tells g.S.Store.files g.S.Store.failures l old c.loop-place.sinks.items c.loop-place.faults.items) same
    (ending_all g.S.Store.tells g.S.Store.files g.S.Store.failures yielded old c.loop-place.sinks.items c.loop-place.faults.items many
    c.loop-place.invariant.ending)
