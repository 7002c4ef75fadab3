use Rattle.std.proofs.Common.{◌≡◌, ◌+◌, suc, List, [], ◌∷◌, ◌++◌, length, refl, sym, subst, arith}
use Rattle.std.proofs.lemmas.Option.{slice_get_read}
use Rattle.alog_hosted.specs.Host.{IsSpareFor}
use Rattle.alog_registry.specs.declared.turn.BacktraceScratch.{BacktraceScratch}
use Rattle.alog_pool.proofs.SharedSharing.{Matching, match_one, match_all, matched_length, matched_within}
use Rattle.alog_hosted.proofs.host.spares_of.Goals as goal

pub push_reserved-requires : goal.push_reserved-requires
push_reserved-requires c =
    let long = matched_length IsSpareFor c.loop-backtrace.backtrace-index c.args.backtraces.now c.loop-backtrace.spares.items
    c.loop-backtrace.invariant.0 in
    let room = c.loop-backtrace.invariant.1 in
    let below = c.loop-backtrace-test.true in
    omega (arith, long, room, below, c.loop-backtrace.spares.ok.0)

pub loop-backtrace-preserved : goal.loop-backtrace-preserved
loop-backtrace-preserved c =
    let ks = c.args.backtraces.now in
    let i = c.loop-backtrace.backtrace-index in
    let k = c.backtrace-item.result in
    let here = slice_get_read ks (length ks) i k refl c.loop-backtrace-test.true c.backtrace-item.is in
    let next : suc i ≡ i + 1 = omega arith in
    let room = c.loop-backtrace.invariant.1 in (
      subst (λ (l : List BacktraceScratch). Matching IsSpareFor (i + 1) ks l) (sym c.push_reserved.ensures.items)
          (subst (λ n. Matching IsSpareFor n ks (c.loop-backtrace.spares.items ++ c.in_ok-spare.field-0 ∷ [])) next
          (match_one IsSpareFor i ks c.loop-backtrace.spares.items k c.in_ok-spare.field-0 here c.in_ok-spare.ensures c.loop-backtrace.invariant.0)),
      omega (arith, room, c.push_reserved.ensures.capacity),
    )

pub returns : goal.returns
returns c =
    let ks = c.args.backtraces.now in
    let within = matched_within IsSpareFor c.loop-backtrace.backtrace-index ks c.loop-backtrace.spares.items c.loop-backtrace.invariant.0 in
    let past = c.loop-backtrace-test.false in
    let all : c.loop-backtrace.backtrace-index ≡ length ks = omega (arith, within, past) in
    match_all IsSpareFor ks c.loop-backtrace.spares.items
    (subst (λ n. Matching IsSpareFor n ks c.loop-backtrace.spares.items) all c.loop-backtrace.invariant.0)
