use Rattle.std.proofs.Common.{◌≡◌, ◌+◌, suc, List, [], ◌∷◌, ◌++◌, length, slice_get, ap, sym, subst, ◌∙◌, arith}
use Rattle.alog_hosted.proofs.Lanes.{mapped_length, mapped_more}
use Rattle.alog_pool.specs.BacktraceSeat.{BacktraceSeatView}
use Rattle.alog_pool.specs.Places.{IsBacktraceSeatOf}
use Rattle.alog_pool.specs.Pool.{backtrace_seat_lanes}
use Rattle.alog_pool.proofs.SharedFirstParts.{found_by}
use Rattle.alog_pool.proofs.SharedSharing.{Matching, match_all, match_one, matched_length}
use Rattle.alog_hosted.proofs.outfit.backtraces_of.Goals as goal
use Rattle.alog_registry.specs.Backtrace.{room_for}
use Rattle.alog_registry.specs.declared.logger.Spec.{Spec}

pub push_reserved-requires : goal.push_reserved-requires
push_reserved-requires c =
    let i = c.loop-number.invariant in
    let each = matched_length (IsBacktraceSeatOf c.args.text_limit) c.loop-number.number c.args.loggers.now c.loop-number.places.items i.each in
    let lanes = mapped_length (λ (k : BacktraceSeatView). k.lane) c.loop-number.places.items c.loop-number.lanes.items i.lanes_are in
    let end = i.end in
    let room = i.lane_room in
    let below = c.loop-number-test.true in
    omega (arith, each, lanes, end, room, below, c.loop-number.lanes.ok.0)

pub push_reserved-requires-in-loop-number : goal.push_reserved-requires-in-loop-number
push_reserved-requires-in-loop-number c =
    let i = c.loop-number.invariant in
    let each = matched_length (IsBacktraceSeatOf c.args.text_limit) c.loop-number.number c.args.loggers.now c.loop-number.places.items i.each in
    let end = i.end in
    let room = i.room in
    let below = c.loop-number-test.true in
    omega (arith, each, end, room, below, c.loop-number.places.ok.0)

pub loop-number-preserved : goal.loop-number-preserved
loop-number-preserved c =
    let i = c.loop-number.invariant in
    let room = i.room in
    let lane_room = i.lane_room in
    let below = c.loop-number-test.true in
    let limit = c.args.text_limit in
    let n = c.loop-number.number in
    let loggers = c.args.loggers.now in
    let places = c.loop-number.places.items in
    let new = c.in_ok-lane.place in
    let spec = c.in-Some.spec.now in
    let found = found_by (slice_get loggers n) spec c.in-Some.ensures.value in
    let one : IsBacktraceSeatOf limit found.0 new = record {
      room = c.in_ok-lane.ensures.empty ∙ ap (λ (s : Spec). room_for s.backtrace limit) (sym found.2);
      known = c.in_ok-lane.ensures.known;
    } in
    let next : suc n ≡ n + 1 = omega arith in
    let items = c.push_reserved-in-loop-number.ensures.items in
    record {
      each = subst (λ (l : List BacktraceSeatView). Matching (IsBacktraceSeatOf limit) (n + 1) loggers l) (sym items)
          (subst (λ m. Matching (IsBacktraceSeatOf limit) m loggers (places ++ new ∷ [])) next
          (match_one (IsBacktraceSeatOf limit) n loggers places found.0 new found.1 one i.each));
      lanes_are = ap (λ (l : List BacktraceSeatView). backtrace_seat_lanes l) items
          ∙ mapped_more (λ (k : BacktraceSeatView). k.lane) places c.loop-number.lanes.items new i.lanes_are c.in_ok-lane.ensures.lane
          ∙ sym c.push_reserved.ensures.items;
      within = omega (arith, below);
      end = i.end;
      room = omega (arith, room, c.push_reserved-in-loop-number.ensures.capacity);
      lane_room = omega (arith, lane_room, c.push_reserved.ensures.capacity);
    }

pub returns-clause-places : goal.returns-clause-places
returns-clause-places c =
    let i = c.loop-number.invariant in
    let within = i.within in
    let end = i.end in
    let past = c.loop-number-test.false in
    let all : c.loop-number.number ≡ length c.args.loggers.now = omega (arith, within, end, past) in
    match_all (IsBacktraceSeatOf c.args.text_limit) c.args.loggers.now c.loop-number.places.items
    (subst (λ n. Matching (IsBacktraceSeatOf c.args.text_limit) n c.args.loggers.now c.loop-number.places.items) all i.each)
