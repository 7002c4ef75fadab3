use Rattle.std.proofs.Common.{rules, ◌≡◌, ◌<◌, suc, List, [], ◌∷◌, ◌++◌, length, length-append, slice_set, ap, sym, subst, ◌∙◌, arith}
use Rattle.std.specs.Prelude.{slice_index_or}
use Rattle.std.specs.Vec.Iter.{into_iter_items}
use Rattle.alog_core.proofs.SharedCalls.{given_front, all_given}
use Rattle.alog_hosted.proofs.Lanes.{mapped_length, mapped_next}
use Rattle.alog_hosted.specs.Host.{IsSpareFor}
use Rattle.alog_pool.specs.BacktraceSeat.{BacktraceSeatView}
use Rattle.alog_pool.specs.Places.{Each2, IsBacktraceSeatPart}
use Rattle.alog_registry.specs.declared.turn.BacktraceScratch.{BacktraceScratch}
use Rattle.alog_pool.proofs.SharedSharing.{Sharing, each2_length, matched_next, next_low, share_one, share_all, shared_lengths, shared_rest}
use Rattle.alog_hosted.proofs.host.share_backtraces.Goals as goal

pub index_mut-requires : goal.index_mut-requires
index_mut-requires c =
    let yielded = c.loop-spare.yielded in
    let front = given_front c.into_iter-spare-iterator.result yielded c.loop-spare.spare-iterator c.loop-spare.yielded_by in
    let more = ap length (sym c.into_iter-spare-iterator.ensures.into_iter_gives.0 ∙ front)
    ∙ length-append yielded (into_iter_items c.loop-spare.spare-iterator) in
    let first = ap length c.in-Some.ensures.steps.0 in
    let each = each2_length IsSpareFor c.args.backtraces.now.items c.args.spares.items c.requires.spares in
    let s = shared_lengths IsBacktraceSeatPart (length yielded) c.args.backtraces.now.items c.loop-spare.backtraces.items c.loop-spare.given.items
    c.loop-spare.invariant.0 in
    let long = s.0 in
    let made = s.1 in
    omega (arith, more, first, each, long, made, c.len-number.ensures, c.loop-spare.backtraces.ok.0, c.loop-spare.given.ok.0)

pub offset_bounds-lanes-number : goal.offset_bounds-lanes-number
offset_bounds-lanes-number c =
    let yielded = c.loop-spare.yielded in
    let front = given_front c.into_iter-spare-iterator.result yielded c.loop-spare.spare-iterator c.loop-spare.yielded_by in
    let more = ap length (sym c.into_iter-spare-iterator.ensures.into_iter_gives.0 ∙ front)
    ∙ length-append yielded (into_iter_items c.loop-spare.spare-iterator) in
    let first = ap length c.in-Some.ensures.steps.0 in
    let each = each2_length IsSpareFor c.args.backtraces.now.items c.args.spares.items c.requires.spares in
    let lanes = mapped_length (λ (k : BacktraceSeatView). k.lane) c.args.backtraces.now.items c.args.lanes.now c.requires.lanes in
    let made = (shared_lengths IsBacktraceSeatPart (length yielded) c.args.backtraces.now.items c.loop-spare.backtraces.items c.loop-spare.given.items
    c.loop-spare.invariant.0).1 in
    let low : c.len-number.result < length c.args.lanes.now =
    omega (arith, more, first, each, lanes, made, c.len-number.ensures, c.loop-spare.given.ok.0) in
    search (rules, low)

pub bounds-lanes-number : goal.bounds-lanes-number
bounds-lanes-number c =
    let yielded = c.loop-spare.yielded in
    let front = given_front c.into_iter-spare-iterator.result yielded c.loop-spare.spare-iterator c.loop-spare.yielded_by in
    let more = ap length (sym c.into_iter-spare-iterator.ensures.into_iter_gives.0 ∙ front)
    ∙ length-append yielded (into_iter_items c.loop-spare.spare-iterator) in
    let first = ap length c.in-Some.ensures.steps.0 in
    let each = each2_length IsSpareFor c.args.backtraces.now.items c.args.spares.items c.requires.spares in
    let lanes = mapped_length (λ (k : BacktraceSeatView). k.lane) c.args.backtraces.now.items c.args.lanes.now c.requires.lanes in
    let made = (shared_lengths IsBacktraceSeatPart (length yielded) c.args.backtraces.now.items c.loop-spare.backtraces.items c.loop-spare.given.items
    c.loop-spare.invariant.0).1 in
    omega (arith, more, first, each, lanes, made, c.len-number.ensures, c.loop-spare.given.ok.0)

pub split-requires-clause-lane : goal.split-requires-clause-lane
split-requires-clause-lane c =
    let yielded = c.loop-spare.yielded in
    let old = c.args.backtraces.now.items in
    let new = c.loop-spare.backtraces.items in
    let given = c.loop-spare.given.items in
    let s = c.loop-spare.invariant.0 in
    let made = (shared_lengths IsBacktraceSeatPart (length yielded) old new given s).1 in
    let at : length yielded ≡ c.len-number.result = omega (arith, made, c.len-number.ensures, c.loop-spare.given.ok.0) in
    let front = given_front c.into_iter-spare-iterator.result yielded c.loop-spare.spare-iterator c.loop-spare.yielded_by in
    let all = sym c.into_iter-spare-iterator.ensures.into_iter_gives.0 ∙ front
    ∙ ap (λ (l : List BacktraceScratch). yielded ++ l) c.in-Some.ensures.steps.0 in
    let low = next_low IsSpareFor IsBacktraceSeatPart yielded c.in-Some.spare _ old new given
    (subst (λ (l : List BacktraceScratch). Each2 IsSpareFor old l) all c.requires.spares) s in
    let lane = λ (k : BacktraceSeatView). k.lane in
    c.index-lanes-number.is
    ∙ subst (λ n. slice_index_or c.args.lanes.now n c.index-lanes-number.result ≡ (slice_index_or new n c.index_mut.result.now).lane) at
    (mapped_next lane IsBacktraceSeatPart (length yielded) old new given c.args.lanes.now c.index_mut.result.now c.index-lanes-number.result
    low c.requires.lanes s)
    ∙ ap lane (sym c.index_mut.ensures.value)

pub split-requires-clause-list : goal.split-requires-clause-list
split-requires-clause-list c =
    let yielded = c.loop-spare.yielded in
    let front = given_front c.into_iter-spare-iterator.result yielded c.loop-spare.spare-iterator c.loop-spare.yielded_by in
    let all = sym c.into_iter-spare-iterator.ensures.into_iter_gives.0 ∙ front ∙ ap (λ (l : List BacktraceScratch). yielded ++ l) c.in-Some.ensures.steps.0 in
    let new = c.loop-spare.backtraces.items in
    let s = c.loop-spare.invariant.0 in
    let made = (shared_lengths IsBacktraceSeatPart (length yielded) c.args.backtraces.now.items new c.loop-spare.given.items s).1 in
    let at : length yielded ≡ c.len-number.result = omega (arith, made, c.len-number.ensures, c.loop-spare.given.ok.0) in
    let one = matched_next IsSpareFor IsBacktraceSeatPart yielded {x = c.in-Some.spare} _ c.args.backtraces.now.items new
    c.loop-spare.given.items c.index_mut.result.now
    (subst (λ (l : List BacktraceScratch). Each2 IsSpareFor c.args.backtraces.now.items l) all c.requires.spares) s in
    subst (λ (k : BacktraceSeatView). IsSpareFor k c.in-Some.spare) (sym c.index_mut.ensures.value)
    (subst (λ n. IsSpareFor (slice_index_or new n c.index_mut.result.now) c.in-Some.spare) at one)

pub split-requires-clause-parts : goal.split-requires-clause-parts
split-requires-clause-parts c =
    let yielded = c.loop-spare.yielded in
    let new = c.loop-spare.backtraces.items in
    let s = c.loop-spare.invariant.0 in
    let made = (shared_lengths IsBacktraceSeatPart (length yielded) c.args.backtraces.now.items new c.loop-spare.given.items s).1 in
    let at : length yielded ≡ c.len-number.result = omega (arith, made, c.len-number.ensures, c.loop-spare.given.ok.0) in
    let front = given_front c.into_iter-spare-iterator.result yielded c.loop-spare.spare-iterator c.loop-spare.yielded_by in
    let all = sym c.into_iter-spare-iterator.ensures.into_iter_gives.0 ∙ front ∙ ap (λ (l : List BacktraceScratch). yielded ++ l) c.in-Some.ensures.steps.0 in
    let low = next_low IsSpareFor IsBacktraceSeatPart yielded c.in-Some.spare _ c.args.backtraces.now.items new c.loop-spare.given.items
    (subst (λ (l : List BacktraceScratch). Each2 IsSpareFor c.args.backtraces.now.items l) all c.requires.spares) s in
    subst (λ (k : BacktraceSeatView). 1 < k.seat.known.parts) (sym c.index_mut.ensures.value)
    (subst (λ n. 1 < (slice_index_or new n c.index_mut.result.now).seat.known.parts) at
    (shared_rest IsBacktraceSeatPart (λ (k : BacktraceSeatView). 1 < k.seat.known.parts) (length yielded) c.args.backtraces.now.items new
    c.loop-spare.given.items c.index_mut.result.now low c.requires.parts s))

pub push_reserved-requires : goal.push_reserved-requires
push_reserved-requires c =
    let yielded = c.loop-spare.yielded in
    let front = given_front c.into_iter-spare-iterator.result yielded c.loop-spare.spare-iterator c.loop-spare.yielded_by in
    let more = ap length (sym c.into_iter-spare-iterator.ensures.into_iter_gives.0 ∙ front)
    ∙ length-append yielded (into_iter_items c.loop-spare.spare-iterator) in
    let first = ap length c.in-Some.ensures.steps.0 in
    let made = (shared_lengths IsBacktraceSeatPart (length yielded) c.args.backtraces.now.items c.loop-spare.backtraces.items
    c.loop-spare.given.items c.loop-spare.invariant.0).1 in
    let room = c.loop-spare.invariant.1 in
    omega (arith, more, first, made, room, c.loop-spare.given.ok.0)

pub loop-spare-preserved : goal.loop-spare-preserved
loop-spare-preserved c =
    let yielded = c.loop-spare.yielded in
    let old = c.args.backtraces.now.items in
    let new = c.loop-spare.backtraces.items in
    let given = c.loop-spare.given.items in
    let s = c.loop-spare.invariant.0 in
    let made = (shared_lengths IsBacktraceSeatPart (length yielded) old new given s).1 in
    let at : length yielded ≡ c.len-number.result = omega (arith, made, c.len-number.ensures, c.loop-spare.given.ok.0) in
    let front = given_front c.into_iter-spare-iterator.result yielded c.loop-spare.spare-iterator c.loop-spare.yielded_by in
    let all = sym c.into_iter-spare-iterator.ensures.into_iter_gives.0 ∙ front ∙ ap (λ (l : List BacktraceScratch). yielded ++ l) c.in-Some.ensures.steps.0 in
    let low = next_low IsSpareFor IsBacktraceSeatPart yielded c.in-Some.spare _ c.args.backtraces.now.items new c.loop-spare.given.items
    (subst (λ (l : List BacktraceScratch). Each2 IsSpareFor c.args.backtraces.now.items l) all c.requires.spares) s in
    let next : suc (length yielded) ≡ length (yielded ++ c.in-Some.spare ∷ []) =
    let l = length-append yielded (c.in-Some.spare ∷ []) in omega (arith, l) in
    let gave = subst (λ n. IsBacktraceSeatPart (slice_index_or new n c.index_mut.result.now) c.split.new.self c.split.result) (sym at)
    (subst (λ (k : BacktraceSeatView). IsBacktraceSeatPart k c.split.new.self c.split.result) c.index_mut.ensures.value c.split.ensures) in
    let room = c.loop-spare.invariant.1 in (
      subst (λ (l : List BacktraceSeatView). Sharing IsBacktraceSeatPart (length (yielded ++ c.in-Some.spare ∷ [])) old
          (slice_set new c.len-number.result c.split.new.self) l) (sym c.push_reserved.ensures.items)
          (subst (λ n. Sharing IsBacktraceSeatPart n old (slice_set new c.len-number.result c.split.new.self) (given ++ c.split.result ∷ [])) next
          (subst (λ n. Sharing IsBacktraceSeatPart (suc (length yielded)) old (slice_set new n c.split.new.self) (given ++ c.split.result ∷ [])) at
          (share_one IsBacktraceSeatPart (length yielded) old new given c.index_mut.result.now low gave s))),
      omega (arith, room, c.push_reserved.ensures.capacity),
    )

pub returns : goal.returns
returns c =
    let all = all_given c.into_iter-spare-iterator.result c.loop-spare.yielded c.loop-spare.spare-iterator c.loop-spare.yielded_by
    c.in-None.ensures.steps.0 in
    let each = each2_length IsSpareFor c.args.backtraces.now.items c.args.spares.items c.requires.spares in
    let same = ap length (sym all ∙ c.into_iter-spare-iterator.ensures.into_iter_gives.0) in
    let end : length c.loop-spare.yielded ≡ length c.args.backtraces.now.items = same ∙ each in
    share_all IsBacktraceSeatPart c.args.backtraces.now.items c.loop-spare.backtraces.items c.loop-spare.given.items
    (subst (λ n. Sharing IsBacktraceSeatPart n c.args.backtraces.now.items c.loop-spare.backtraces.items c.loop-spare.given.items) end
    c.loop-spare.invariant.0)
