use Rattle.std.proofs.Common.{◌≡◌, ◌+◌, ◌<◌, ℕ, suc, List, length, slice_set, take, refl, sym, ap, subst, ◌∙◌, arith}
use Rattle.std.proofs.Math.Seq.{take-length}
use Rattle.std.specs.Prelude.{slice_index_or}
use Rattle.alog_pool.proofs.SharedSharing.{Sharing, share_all, share_one, shared_lengths, shared_within}
use Rattle.alog_pool.specs.Places.{Each3}
use Rattle.alog_server.specs.SinkEnds.{IsWithFaults}
use Rattle.alog_server.specs.declared.sink_end.SinkEnd.{SinkEnd}
use Rattle.alog_server.proofs.Telling.{take_next}
use Rattle.alog_server.proofs.sink_end.with_faults.Goals as goal

pub loop-number-preserved : goal.loop-number-preserved
loop-number-preserved c =
    let i = c.loop-number.number in
    let old = c.args.ends.items in
    let now = c.loop-number.ends.items in
    let faults = c.args.faults.now in
    let own = c.index_mut.result.now in
    let v = slice_index_or faults i 0 in
    let told : SinkEnd = record { name = own.name; faults = v; files = own.files } in
    let long = (shared_lengths IsWithFaults i old now (take i faults) c.loop-number.invariant).0 in
    let one = c.loop-number-test.true in
    let end = c.len-number-end.ensures in
    let each = c.requires in
    let next : suc i ≡ i + 1 = omega arith in
    let low : i < length now = omega (arith, long, one, end) in
    let here = subst (λ (e : SinkEnd). IsWithFaults e told v) c.index_mut.ensures.value refl in
    subst (λ n. Sharing IsWithFaults n old (slice_set now i told) (take (i + 1) faults)) next
    (subst (λ (l : List ℕ). Sharing IsWithFaults (suc i) old (slice_set now i told) l)
    (sym (take_next faults i 0 (omega (arith, long, low, each))))
    (share_one IsWithFaults i old now (take i faults) own low here c.loop-number.invariant))

pub returns : goal.returns
returns c =
    let i = c.loop-number.number in
    let old = c.args.ends.items in
    let now = c.loop-number.ends.items in
    let faults = c.args.faults.now in
    let within = shared_within IsWithFaults i old now (take i faults) c.loop-number.invariant in
    let past = c.loop-number-test.false in
    let end = c.len-number-end.ensures in
    let all : i ≡ length old = omega (arith, within, past, end) in
    subst (λ (l : List ℕ). Each3 IsWithFaults old now l) (ap (λ n. take n faults) c.requires ∙ take-length faults)
    (share_all IsWithFaults old now (take (length old) faults)
    (subst (λ n. Sharing IsWithFaults n old now (take n faults)) all c.loop-number.invariant))
