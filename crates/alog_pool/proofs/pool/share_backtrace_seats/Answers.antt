use Rattle.std.proofs.Common.{◌≡◌, ◌<◌, suc, List, [], ◌∷◌, ◌++◌, length, length-append, slice_set, ap, sym, subst, ◌∙◌, arith}
use Rattle.std.specs.Prelude.{slice_index_or}
use Rattle.std.specs.Vec.Iter.{into_iter_items}
use Rattle.alog_core.proofs.SharedCalls.{given_front, all_given}
use Rattle.alog_pool.specs.BacktraceSeat.{BacktraceSeatView}
use Rattle.alog_pool.specs.Places.{Each2, IsBacktraceSeatPart, IsSpareOf}
use Rattle.alog_pool.specs.declared.backtrace_seat.Spare.{Spare}
use Rattle.alog_pool.proofs.SharedSharing.{Sharing, each2_length, matched_next, next_low, share_one, share_all, shared_lengths, shared_rest}
use Rattle.alog_pool.proofs.pool.share_backtrace_seats.Goals as goal

pub index_mut-requires : goal.index_mut-requires
index_mut-requires c =
    let yielded = c.loop-spare.yielded in
    let front = given_front c.into_iter-spare-iterator.result yielded c.loop-spare.spare-iterator c.loop-spare.yielded_by in
    let more = ap length (sym c.into_iter-spare-iterator.ensures.into_iter_gives.0 ∙ front)
    ∙ length-append yielded (into_iter_items c.loop-spare.spare-iterator) in
    let first = ap length c.in-Some.ensures.steps.0 in
    let each = each2_length IsSpareOf c.args.backtrace_seats.now.items c.args.spares.items c.requires.spares in
    let s = shared_lengths IsBacktraceSeatPart (length yielded) c.args.backtrace_seats.now.items c.loop-spare.backtrace_seats.items c.loop-spare.given.items
    c.loop-spare.invariant.0 in
    let long = s.0 in
    let made = s.1 in
    omega (arith, more, first, each, long, made, c.len-place.ensures, c.loop-spare.backtrace_seats.ok.0, c.loop-spare.given.ok.0)

pub split-requires-clause-of : goal.split-requires-clause-of
split-requires-clause-of c =
    let yielded = c.loop-spare.yielded in
    let front = given_front c.into_iter-spare-iterator.result yielded c.loop-spare.spare-iterator c.loop-spare.yielded_by in
    let all = sym c.into_iter-spare-iterator.ensures.into_iter_gives.0 ∙ front ∙ ap (λ (l : List Spare). yielded ++ l) c.in-Some.ensures.steps.0 in
    let new = c.loop-spare.backtrace_seats.items in
    let s = c.loop-spare.invariant.0 in
    let made = (shared_lengths IsBacktraceSeatPart (length yielded) c.args.backtrace_seats.now.items new c.loop-spare.given.items s).1 in
    let at : length yielded ≡ c.len-place.result = omega (arith, made, c.len-place.ensures, c.loop-spare.given.ok.0) in
    let one = matched_next IsSpareOf IsBacktraceSeatPart yielded {x = c.in-Some.spare} _ c.args.backtrace_seats.now.items new
    c.loop-spare.given.items c.index_mut.result.now
    (subst (λ (l : List Spare). Each2 IsSpareOf c.args.backtrace_seats.now.items l) all c.requires.spares) s in
    subst (λ (k : BacktraceSeatView). IsSpareOf k c.in-Some.spare) (sym c.index_mut.ensures.value)
    (subst (λ n. IsSpareOf (slice_index_or new n c.index_mut.result.now) c.in-Some.spare) at one)

pub split-requires-clause-parts : goal.split-requires-clause-parts
split-requires-clause-parts c =
    let yielded = c.loop-spare.yielded in
    let new = c.loop-spare.backtrace_seats.items in
    let s = c.loop-spare.invariant.0 in
    let made = (shared_lengths IsBacktraceSeatPart (length yielded) c.args.backtrace_seats.now.items new c.loop-spare.given.items s).1 in
    let at : length yielded ≡ c.len-place.result = omega (arith, made, c.len-place.ensures, c.loop-spare.given.ok.0) in
    let front = given_front c.into_iter-spare-iterator.result yielded c.loop-spare.spare-iterator c.loop-spare.yielded_by in
    let all = sym c.into_iter-spare-iterator.ensures.into_iter_gives.0 ∙ front ∙ ap (λ (l : List Spare). yielded ++ l) c.in-Some.ensures.steps.0 in
    let low = next_low IsSpareOf IsBacktraceSeatPart yielded c.in-Some.spare _ c.args.backtrace_seats.now.items new c.loop-spare.given.items
    (subst (λ (l : List Spare). Each2 IsSpareOf c.args.backtrace_seats.now.items l) all c.requires.spares) s in
    subst (λ (k : BacktraceSeatView). 1 < k.seat.known.parts) (sym c.index_mut.ensures.value)
    (subst (λ n. 1 < (slice_index_or new n c.index_mut.result.now).seat.known.parts) at
    (shared_rest IsBacktraceSeatPart (λ (k : BacktraceSeatView). 1 < k.seat.known.parts) (length yielded) c.args.backtrace_seats.now.items new
    c.loop-spare.given.items c.index_mut.result.now low c.requires.parts s))

pub push_reserved-requires : goal.push_reserved-requires
push_reserved-requires c =
    let yielded = c.loop-spare.yielded in
    let front = given_front c.into_iter-spare-iterator.result yielded c.loop-spare.spare-iterator c.loop-spare.yielded_by in
    let more = ap length (sym c.into_iter-spare-iterator.ensures.into_iter_gives.0 ∙ front)
    ∙ length-append yielded (into_iter_items c.loop-spare.spare-iterator) in
    let first = ap length c.in-Some.ensures.steps.0 in
    let made = (shared_lengths IsBacktraceSeatPart (length yielded) c.args.backtrace_seats.now.items c.loop-spare.backtrace_seats.items
    c.loop-spare.given.items c.loop-spare.invariant.0).1 in
    let room = c.loop-spare.invariant.1 in
    omega (arith, more, first, made, room, c.loop-spare.given.ok.0)

pub loop-spare-preserved : goal.loop-spare-preserved
loop-spare-preserved c =
    let yielded = c.loop-spare.yielded in
    let old = c.args.backtrace_seats.now.items in
    let new = c.loop-spare.backtrace_seats.items in
    let given = c.loop-spare.given.items in
    let s = c.loop-spare.invariant.0 in
    let made = (shared_lengths IsBacktraceSeatPart (length yielded) old new given s).1 in
    let at : length yielded ≡ c.len-place.result = omega (arith, made, c.len-place.ensures, c.loop-spare.given.ok.0) in
    let front = given_front c.into_iter-spare-iterator.result yielded c.loop-spare.spare-iterator c.loop-spare.yielded_by in
    let all = sym c.into_iter-spare-iterator.ensures.into_iter_gives.0 ∙ front ∙ ap (λ (l : List Spare). yielded ++ l) c.in-Some.ensures.steps.0 in
    let low = next_low IsSpareOf IsBacktraceSeatPart yielded c.in-Some.spare _ c.args.backtrace_seats.now.items new c.loop-spare.given.items
    (subst (λ (l : List Spare). Each2 IsSpareOf c.args.backtrace_seats.now.items l) all c.requires.spares) s in
    let next : suc (length yielded) ≡ length (yielded ++ c.in-Some.spare ∷ []) =
    let l = length-append yielded (c.in-Some.spare ∷ []) in omega (arith, l) in
    let gave = subst (λ n. IsBacktraceSeatPart (slice_index_or new n c.index_mut.result.now) c.split.new.self c.split.result) (sym at)
    (subst (λ (k : BacktraceSeatView). IsBacktraceSeatPart k c.split.new.self c.split.result) c.index_mut.ensures.value c.split.ensures) in
    let room = c.loop-spare.invariant.1 in (
      subst (λ (l : List BacktraceSeatView). Sharing IsBacktraceSeatPart (length (yielded ++ c.in-Some.spare ∷ [])) old
          (slice_set new c.len-place.result c.split.new.self) l) (sym c.push_reserved.ensures.items)
          (subst (λ n. Sharing IsBacktraceSeatPart n old (slice_set new c.len-place.result c.split.new.self) (given ++ c.split.result ∷ [])) next
          (subst (λ n. Sharing IsBacktraceSeatPart (suc (length yielded)) old (slice_set new n c.split.new.self) (given ++ c.split.result ∷ [])) at
          (share_one IsBacktraceSeatPart (length yielded) old new given c.index_mut.result.now low gave s))),
      omega (arith, room, c.push_reserved.ensures.capacity),
    )

pub returns : goal.returns
returns c =
    let all = all_given c.into_iter-spare-iterator.result c.loop-spare.yielded c.loop-spare.spare-iterator c.loop-spare.yielded_by
    c.in-None.ensures.steps.0 in
    let each = each2_length IsSpareOf c.args.backtrace_seats.now.items c.args.spares.items c.requires.spares in
    let same = ap length (sym all ∙ c.into_iter-spare-iterator.ensures.into_iter_gives.0) in
    let end : length c.loop-spare.yielded ≡ length c.args.backtrace_seats.now.items = same ∙ each in
    share_all IsBacktraceSeatPart c.args.backtrace_seats.now.items c.loop-spare.backtrace_seats.items c.loop-spare.given.items
    (subst (λ n. Sharing IsBacktraceSeatPart n c.args.backtrace_seats.now.items c.loop-spare.backtrace_seats.items c.loop-spare.given.items) end
    c.loop-spare.invariant.0)
