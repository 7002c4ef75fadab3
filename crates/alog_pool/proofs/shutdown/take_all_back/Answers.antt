use Rattle.std.proofs.Common.{◌≡◌, suc, List, [], ◌∷◌, ◌++◌, length, length-append, slice_set, ap, sym, subst, ◌∙◌, arith}
use Rattle.std.specs.Prelude.{slice_index_or}
use Rattle.std.specs.Vec.Iter.{into_iter_items}
use Rattle.alog_core.proofs.SharedCalls.{given_front, all_given}
use Rattle.alog_pool.specs.SinkSeat.{SinkSeatView}
use Rattle.alog_pool.specs.Collected.{TakesBack}
use Rattle.alog_pool.specs.Places.{Each2, Each3, IsSameLane}
use Rattle.alog_pool.proofs.SharedSharing.{Sharing, each2_length, matched_next, next_low, share_one, share_all, shared_lengths}
use Rattle.alog_pool.proofs.shutdown.take_all_back.Goals as goal

pub index_mut-requires : goal.index_mut-requires
index_mut-requires g c =
    let yielded = c.loop-place.yielded in
    let front = given_front c.into_iter-place-iterator.result yielded c.loop-place.place-iterator c.loop-place.yielded_by in
    let more = ap length (sym c.into_iter-place-iterator.ensures.into_iter_gives.0 ∙ front)
    ∙ length-append yielded (into_iter_items c.loop-place.place-iterator) in
    let first = ap length c.in-Some.ensures.steps.0 in
    let each = each2_length IsSameLane c.args.sink_seats.now.items c.args.places.items c.requires in
    let long = (shared_lengths TakesBack (length yielded) c.args.sink_seats.now.items c.loop-place.sink_seats.items yielded
    c.loop-place.invariant.0).0 in
    let at = c.loop-place.invariant.1 in
    omega (arith, more, first, each, long, at, c.loop-place.sink_seats.ok.0)

pub take_back-requires : goal.take_back-requires
take_back-requires g c =
    let B : Type 0 = SinkSeatView g.row.S.Denot in
    let yielded = c.loop-place.yielded in
    let front = given_front c.into_iter-place-iterator.result yielded c.loop-place.place-iterator c.loop-place.yielded_by in
    let all = sym c.into_iter-place-iterator.ensures.into_iter_gives.0 ∙ front ∙ ap (λ (l : List B). yielded ++ l) c.in-Some.ensures.steps.0 in
    let new = c.loop-place.sink_seats.items in
    let one = matched_next IsSameLane TakesBack yielded {x = c.in-Some.place} _ c.args.sink_seats.now.items new yielded
    c.index_mut.result.now (subst (λ (l : List B). Each2 IsSameLane c.args.sink_seats.now.items l) all c.requires)
    c.loop-place.invariant.0 in
    subst (λ (b : B). c.in-Some.place.lane ≡ b.lane) (sym c.index_mut.ensures.value)
    (subst (λ n. c.in-Some.place.lane ≡ (slice_index_or new n c.index_mut.result.now).lane) (sym c.loop-place.invariant.1) one)

pub loop-place-preserved : goal.loop-place-preserved
loop-place-preserved g c =
    let B : Type 0 = SinkSeatView g.row.S.Denot in
    let yielded = c.loop-place.yielded in
    let place = c.in-Some.place in
    let old = c.args.sink_seats.now.items in
    let new = c.loop-place.sink_seats.items in
    let s = c.loop-place.invariant.0 in
    let at : length yielded ≡ c.loop-place.number = sym c.loop-place.invariant.1 in
    let front = given_front c.into_iter-place-iterator.result yielded c.loop-place.place-iterator c.loop-place.yielded_by in
    let all = sym c.into_iter-place-iterator.ensures.into_iter_gives.0 ∙ front ∙ ap (λ (l : List B). yielded ++ l) c.in-Some.ensures.steps.0 in
    let low = next_low IsSameLane TakesBack yielded place _ old new yielded
    (subst (λ (l : List B). Each2 IsSameLane old l) all c.requires) s in
    let long = length-append yielded (place ∷ []) in
    let next : suc (length yielded) ≡ length (yielded ++ place ∷ []) = omega (arith, long) in
    let took : TakesBack c.index_mut.result.now c.take_back.new.self place = record {
      lane = c.take_back.ensures.same.0;
      limit = c.take_back.ensures.same.1;
      joined = c.take_back.ensures.joined;
      faults = c.take_back.ensures.faults;
    } in
    let gave = subst (λ n. TakesBack (slice_index_or new n c.index_mut.result.now) c.take_back.new.self place) (sym at)
    (subst (λ (b : B). TakesBack b c.take_back.new.self place) c.index_mut.ensures.value took) in (
      subst (λ n. Sharing TakesBack n old (slice_set new c.loop-place.number c.take_back.new.self) (yielded ++ place ∷ [])) next
          (subst (λ n. Sharing TakesBack (suc (length yielded)) old (slice_set new n c.take_back.new.self) (yielded ++ place ∷ [])) at
          (share_one TakesBack (length yielded) old new yielded c.index_mut.result.now low gave s)),
      omega (arith, next, at),
    )

pub returns : goal.returns
returns g c =
    let B : Type 0 = SinkSeatView g.row.S.Denot in
    let yielded = c.loop-place.yielded in
    let old = c.args.sink_seats.now.items in
    let new = c.loop-place.sink_seats.items in
    let all = all_given c.into_iter-place-iterator.result yielded c.loop-place.place-iterator c.loop-place.yielded_by
    c.in-None.ensures.steps.0 in
    let same = sym all ∙ c.into_iter-place-iterator.ensures.into_iter_gives.0 in
    let each = each2_length IsSameLane old c.args.places.items c.requires in
    let end : length yielded ≡ length old = ap length same ∙ each in
    subst (λ (l : List B). Each3 TakesBack old new l) same
    (share_all TakesBack old new yielded (subst (λ n. Sharing TakesBack n old new yielded) end c.loop-place.invariant.0))
