use Rattle.std.proofs.Common.{◌≡◌, ◌+◌, suc, List, [], ◌∷◌, ◌++◌, length, slice_get, ap, sym, subst, ◌∙◌, arith}
use Rattle.alog_pool.specs.BacktraceSeat.{BacktraceSeatView}
use Rattle.alog_pool.specs.Places.{IsBacktraceSeatOf}
use Rattle.alog_pool.proofs.SharedFirstParts.{found_by}
use Rattle.alog_pool.proofs.SharedSharing.{Matching, match_all, match_one, matched_length}
use Rattle.alog_pool.proofs.pool_parts.backtrace_seats_of.Goals as goal
use Rattle.alog_registry.specs.Backtrace.{room_for}
use Rattle.alog_registry.specs.declared.logger.Spec.{Spec}

pub push_reserved-requires : goal.push_reserved-requires
push_reserved-requires c =
    let i = c.loop-number.invariant in
    let each = matched_length (IsBacktraceSeatOf c.args.text_limit) c.loop-number.number c.args.loggers.now c.loop-number.backtrace_seats.items i.each in
    let end = i.end in
    let room = i.room in
    let below = c.loop-number-test.true in
    omega (arith, each, end, room, below, c.loop-number.backtrace_seats.ok.0)

pub loop-number-preserved : goal.loop-number-preserved
loop-number-preserved c =
    let i = c.loop-number.invariant in
    let room = i.room in
    let below = c.loop-number-test.true in
    let limit = c.args.text_limit in
    let n = c.loop-number.number in
    let loggers = c.args.loggers.now in
    let new = c.in_ok-new.field-0 in
    let spec = c.in-Some.spec.now in
    let found = found_by (slice_get loggers n) spec c.in-Some.ensures.value in
    let one : IsBacktraceSeatOf limit found.0 new = record {
      room = c.in_ok-new.ensures.empty ∙ ap (λ (s : Spec). room_for s.backtrace limit) (sym found.2);
      known = c.in_ok-new.ensures.known;
    } in
    let next : suc n ≡ n + 1 = omega arith in
    record {
      each = subst (λ (l : List BacktraceSeatView). Matching (IsBacktraceSeatOf limit) (n + 1) loggers l) (sym c.push_reserved.ensures.items)
          (subst (λ m. Matching (IsBacktraceSeatOf limit) m loggers (c.loop-number.backtrace_seats.items ++ new ∷ [])) next
          (match_one (IsBacktraceSeatOf limit) n loggers c.loop-number.backtrace_seats.items found.0 new found.1 one i.each));
      within = omega (arith, below);
      end = i.end;
      room = omega (arith, room, c.push_reserved.ensures.capacity);
    }

pub returns : goal.returns
returns c =
    let i = c.loop-number.invariant in
    let within = i.within in
    let end = i.end in
    let past = c.loop-number-test.false in
    let all : c.loop-number.number ≡ length c.args.loggers.now = omega (arith, within, end, past) in
    match_all (IsBacktraceSeatOf c.args.text_limit) c.args.loggers.now c.loop-number.backtrace_seats.items
    (subst (λ n. Matching (IsBacktraceSeatOf c.args.text_limit) n c.args.loggers.now c.loop-number.backtrace_seats.items) all i.each)
