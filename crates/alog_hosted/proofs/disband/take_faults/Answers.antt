use Rattle.std.proofs.Common.{◌≡◌, ◌<◌, ◌+◌, ℕ, suc, List, [], ◌∷◌, ◌++◌, length, slice_set, refl, sym, subst, arith}
use Rattle.alog_hosted.specs.Closing.{GivesFaults}
use Rattle.alog_pool.specs.SinkSeat.{SinkSeatView}
use Rattle.alog_pool.proofs.SharedSharing.{Sharing, share_all, share_one, shared_lengths, shared_within}
use Rattle.alog_hosted.proofs.disband.take_faults.Goals as goal

pub loop-number-init : goal.loop-number-init
loop-number-init g c = record { shared = (refl, c.requires.room.0); room = c.requires.room.1 }

pub push_reserved-requires : goal.push_reserved-requires
push_reserved-requires g c =
    let made = (shared_lengths GivesFaults c.loop-number.number c.args.places.now.items c.loop-number.places.items c.loop-number.faults.items
    c.loop-number.invariant.shared).1 in
    let end = c.len-number-end.ensures in
    let less = c.loop-number-test.true in
    let room = c.loop-number.invariant.room in
    omega (arith, made, end, less, room, c.loop-number.faults.ok.0, c.args.places.now.ok.0)

pub loop-number-preserved : goal.loop-number-preserved
loop-number-preserved g c =
    let B : Type 0 = SinkSeatView g.row.S.Denot in
    let i = c.loop-number.number in
    let old = c.args.places.now.items in
    let new = c.loop-number.places.items in
    let given = c.loop-number.faults.items in
    let s = c.loop-number.invariant.shared in
    let long = (shared_lengths GivesFaults i old new given s).0 in
    let end = c.len-number-end.ensures in
    let less = c.loop-number-test.true in
    let low : i < length new = omega (arith, long, end, less, c.args.places.now.ok.0) in
    let gave : GivesFaults c.index_mut.result.now c.take_faults.new.self c.take_faults.result = record {
      lane = c.take_faults.ensures.same.0;
      limit = c.take_faults.ensures.same.1;
      seat = c.take_faults.ensures.same.2;
      given = c.take_faults.ensures.taken;
      left = c.take_faults.ensures.left;
    } in
    let one = subst (λ (b : B). GivesFaults b c.take_faults.new.self c.take_faults.result) c.index_mut.ensures.value gave in
    let next : suc i ≡ i + 1 = omega arith in
    let room = c.loop-number.invariant.room in
    record {
      shared = subst (λ (l : List ℕ). Sharing GivesFaults (i + 1) old (slice_set new i c.take_faults.new.self) l) (sym {A = List ℕ} c.push_reserved.ensures.items)
          (subst (λ n. Sharing GivesFaults n old (slice_set new i c.take_faults.new.self) (given ++ c.take_faults.result ∷ [])) next
          (share_one GivesFaults i old new given c.index_mut.result.now low one s));
      room = omega (arith, room, c.push_reserved.ensures.capacity);
    }

pub returns : goal.returns
returns g c =
    let i = c.loop-number.number in
    let old = c.args.places.now.items in
    let new = c.loop-number.places.items in
    let given = c.loop-number.faults.items in
    let s = c.loop-number.invariant.shared in
    let within = shared_within GivesFaults i old new given s in
    let end = c.len-number-end.ensures in
    let past = c.loop-number-test.false in
    let all : i ≡ length old = omega (arith, within, end, past, c.args.places.now.ok.0) in
    share_all GivesFaults old new given (subst (λ n. Sharing GivesFaults n old new given) all s)
