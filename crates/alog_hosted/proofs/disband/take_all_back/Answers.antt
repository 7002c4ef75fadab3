use Rattle.std.proofs.Common.{◌≡◌, ◌<◌, suc, List, [], ◌∷◌, ◌++◌, length, length-append, slice_set, ap, sym, subst, ◌∙◌, arith}
use Rattle.std.specs.Prelude.{slice_index_or}
use Rattle.std.specs.Vec.Iter.{into_iter_items}
use Rattle.alog_core.proofs.SharedCalls.{all_given}
use Rattle.alog_pool.specs.SinkSeat.{SinkSeatView}
use Rattle.alog_pool.specs.Collected.{TakesBack}
use Rattle.alog_pool.specs.Places.{Each2, Each3, IsSameLane}
use Rattle.alog_pool.proofs.SharedSharing.{Sharing, each2_length, matched_next, next_low, share_one, share_all, shared_lengths}
use Rattle.alog_hosted.proofs.Closings.{front_below, given_next, lane_here, lanes_length, shared_lanes}
use Rattle.alog_hosted.proofs.disband.take_all_back.Goals as goal

pub index_mut-requires : goal.index_mut-requires
index_mut-requires g c =
    let B : Type 0 = SinkSeatView g.row.S.Denot in
    let yielded = c.loop-place.yielded in
    let all = given_next {X = B} c.args.given.items c.into_iter-place-iterator.result yielded c.loop-place.place-iterator c.in-Some.place
    (into_iter_items c.next.new.self) c.into_iter-place-iterator.ensures.into_iter_gives.0 c.loop-place.yielded_by c.in-Some.ensures.steps.0 in
    let below = front_below {X = B} c.args.given.items yielded c.in-Some.place (into_iter_items c.next.new.self) all in
    let each = each2_length IsSameLane c.args.places.now.items c.args.given.items c.requires.same in
    let long = (shared_lengths TakesBack (length yielded) c.args.places.now.items c.loop-place.places.items yielded
    c.loop-place.invariant.0).0 in
    let at = c.loop-place.invariant.1 in
    omega (arith, below, each, long, at, c.loop-place.places.ok.0)

pub bounds-lanes-number : goal.bounds-lanes-number
bounds-lanes-number g c =
    let B : Type 0 = SinkSeatView g.row.S.Denot in
    let yielded = c.loop-place.yielded in
    let all = given_next {X = B} c.args.given.items c.into_iter-place-iterator.result yielded c.loop-place.place-iterator c.in-Some.place
    (into_iter_items c.next.new.self) c.into_iter-place-iterator.ensures.into_iter_gives.0 c.loop-place.yielded_by c.in-Some.ensures.steps.0 in
    let below = front_below {X = B} c.args.given.items yielded c.in-Some.place (into_iter_items c.next.new.self) all in
    let each = each2_length IsSameLane c.args.places.now.items c.args.given.items c.requires.same in
    let lanes = lanes_length c.args.places.now.items c.args.lanes.now c.requires.lanes in
    let at = c.loop-place.invariant.1 in omega (arith, below, each, lanes, at)

pub take_back-requires-clause-lane : goal.take_back-requires-clause-lane
take_back-requires-clause-lane g c =
    let B : Type 0 = SinkSeatView g.row.S.Denot in
    let yielded = c.loop-place.yielded in
    let old = c.args.places.now.items in
    let new = c.loop-place.places.items in
    let all = given_next {X = B} c.args.given.items c.into_iter-place-iterator.result yielded c.loop-place.place-iterator c.in-Some.place
    (into_iter_items c.next.new.self) c.into_iter-place-iterator.ensures.into_iter_gives.0 c.loop-place.yielded_by c.in-Some.ensures.steps.0 in
    let low = next_low IsSameLane TakesBack yielded c.in-Some.place _ old new yielded
    (subst (λ (l : List B). Each2 IsSameLane old l) all c.requires.same) c.loop-place.invariant.0 in
    let near : c.loop-place.number < length new = omega (arith, low, c.loop-place.invariant.1) in
    c.index-lanes-number.is
    ∙ lane_here new c.args.lanes.now c.loop-place.number c.index-lanes-number.result c.index_mut.result.now
    (shared_lanes (length yielded) old new yielded c.loop-place.invariant.0 ∙ c.requires.lanes) near
    ∙ sym (ap (λ (b : B). b.lane) c.index_mut.ensures.value)

pub take_back-requires-clause-same : goal.take_back-requires-clause-same
take_back-requires-clause-same g c =
    let B : Type 0 = SinkSeatView g.row.S.Denot in
    let yielded = c.loop-place.yielded in
    let all = given_next {X = B} c.args.given.items c.into_iter-place-iterator.result yielded c.loop-place.place-iterator c.in-Some.place
    (into_iter_items c.next.new.self) c.into_iter-place-iterator.ensures.into_iter_gives.0 c.loop-place.yielded_by c.in-Some.ensures.steps.0 in
    let new = c.loop-place.places.items in
    let one = matched_next IsSameLane TakesBack yielded {x = c.in-Some.place} _ c.args.places.now.items new yielded
    c.index_mut.result.now (subst (λ (l : List B). Each2 IsSameLane c.args.places.now.items l) all c.requires.same)
    c.loop-place.invariant.0 in
    subst (λ (b : B). c.in-Some.place.lane ≡ b.lane) (sym c.index_mut.ensures.value)
    (subst (λ n. c.in-Some.place.lane ≡ (slice_index_or new n c.index_mut.result.now).lane) (sym c.loop-place.invariant.1) one)

pub loop-place-preserved : goal.loop-place-preserved
loop-place-preserved g c =
    let B : Type 0 = SinkSeatView g.row.S.Denot in
    let yielded = c.loop-place.yielded in
    let place = c.in-Some.place in
    let old = c.args.places.now.items in
    let new = c.loop-place.places.items in
    let s = c.loop-place.invariant.0 in
    let at : length yielded ≡ c.loop-place.number = sym c.loop-place.invariant.1 in
    let all = given_next {X = B} c.args.given.items c.into_iter-place-iterator.result yielded c.loop-place.place-iterator c.in-Some.place
    (into_iter_items c.next.new.self) c.into_iter-place-iterator.ensures.into_iter_gives.0 c.loop-place.yielded_by c.in-Some.ensures.steps.0 in
    let low = next_low IsSameLane TakesBack yielded place _ old new yielded
    (subst (λ (l : List B). Each2 IsSameLane old l) all c.requires.same) s in
    let long = length-append yielded (place ∷ []) in
    let next : suc (length yielded) ≡ length (yielded ++ place ∷ []) = omega (arith, long) in
    let took : TakesBack c.index_mut.result.now c.take_back.new.self place = record {
      lane = c.take_back.ensures.same.0;
      limit = c.take_back.ensures.same.1;
      joined = c.take_back.ensures.joined;
      faults = c.take_back.ensures.faults;
    } in
    let gave = subst (λ n. TakesBack (slice_index_or new n c.index_mut.result.now) c.take_back.new.self place) (sym at)
    (subst (λ (b : B). TakesBack b c.take_back.new.self place) c.index_mut.ensures.value took) in (
      subst (λ n. Sharing TakesBack n old (slice_set new c.loop-place.number c.take_back.new.self) (yielded ++ place ∷ [])) next
          (subst (λ n. Sharing TakesBack (suc (length yielded)) old (slice_set new n c.take_back.new.self) (yielded ++ place ∷ [])) at
          (share_one TakesBack (length yielded) old new yielded c.index_mut.result.now low gave s)),
      omega (arith, next, at),
    )

pub returns : goal.returns
returns g c =
    let B : Type 0 = SinkSeatView g.row.S.Denot in
    let yielded = c.loop-place.yielded in
    let old = c.args.places.now.items in
    let new = c.loop-place.places.items in
    let all = all_given c.into_iter-place-iterator.result yielded c.loop-place.place-iterator c.loop-place.yielded_by
    c.in-None.ensures.steps.0 in
    let same = sym all ∙ c.into_iter-place-iterator.ensures.into_iter_gives.0 in
    let each = each2_length IsSameLane old c.args.given.items c.requires.same in
    let end : length yielded ≡ length old = ap length same ∙ each in
    subst (λ (l : List B). Each3 TakesBack old new l) same
    (share_all TakesBack old new yielded (subst (λ n. Sharing TakesBack n old new yielded) end c.loop-place.invariant.0))
