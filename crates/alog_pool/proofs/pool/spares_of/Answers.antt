use Rattle.std.proofs.Common.{◌≡◌, ◌+◌, suc, List, [], ◌∷◌, ◌++◌, length, refl, sym, subst, arith}
use Rattle.std.proofs.lemmas.Option.{slice_get_read}
use Rattle.alog_pool.specs.Places.{IsSpareOf}
use Rattle.alog_pool.specs.declared.backtrace_seat.Spare.{Spare}
use Rattle.alog_pool.proofs.SharedSharing.{Matching, match_one, match_all, matched_length, matched_within}
use Rattle.alog_pool.proofs.pool.spares_of.Goals as goal

pub push_reserved-requires : goal.push_reserved-requires
push_reserved-requires c =
    let long = matched_length IsSpareOf c.loop-backtrace_seat.backtrace_seat-index c.args.backtrace_seats.now c.loop-backtrace_seat.spares.items
    c.loop-backtrace_seat.invariant.0 in
    let room = c.loop-backtrace_seat.invariant.1 in
    let below = c.loop-backtrace_seat-test.true in
    omega (arith, long, room, below, c.loop-backtrace_seat.spares.ok.0)

pub loop-backtrace_seat-preserved : goal.loop-backtrace_seat-preserved
loop-backtrace_seat-preserved c =
    let ks = c.args.backtrace_seats.now in
    let i = c.loop-backtrace_seat.backtrace_seat-index in
    let k = c.backtrace_seat-item.result in
    let here = slice_get_read ks (length ks) i k refl c.loop-backtrace_seat-test.true c.backtrace_seat-item.is in
    let next : suc i ≡ i + 1 = omega arith in
    let room = c.loop-backtrace_seat.invariant.1 in (
      subst (λ (l : List Spare). Matching IsSpareOf (i + 1) ks l) (sym c.push_reserved.ensures.items)
          (subst (λ n. Matching IsSpareOf n ks (c.loop-backtrace_seat.spares.items ++ c.in_ok-spare.field-0 ∷ [])) next
          (match_one IsSpareOf i ks c.loop-backtrace_seat.spares.items k c.in_ok-spare.field-0 here c.in_ok-spare.ensures c.loop-backtrace_seat.invariant.0)),
      omega (arith, room, c.push_reserved.ensures.capacity),
    )

pub returns : goal.returns
returns c =
    let ks = c.args.backtrace_seats.now in
    let within = matched_within IsSpareOf c.loop-backtrace_seat.backtrace_seat-index ks c.loop-backtrace_seat.spares.items c.loop-backtrace_seat.invariant.0 in
    let past = c.loop-backtrace_seat-test.false in
    let all : c.loop-backtrace_seat.backtrace_seat-index ≡ length ks = omega (arith, within, past) in
    match_all IsSpareOf ks c.loop-backtrace_seat.spares.items
    (subst (λ n. Matching IsSpareOf n ks c.loop-backtrace_seat.spares.items) all c.loop-backtrace_seat.invariant.0)
