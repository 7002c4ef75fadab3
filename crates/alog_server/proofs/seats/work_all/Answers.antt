use Rattle.std.proofs.Common.{◌≡◌, ◌<◌, ◌+◌, ℕ, List, map, length, ap, sym, subst, ◌∙◌, arith}
use denote.Exit.{no}
use denote.Param.{param}
use denote.Param.Send.{IsSend, arg_send, param_send}
use Rattle.std.specs.Prelude.{slice_index_or}
use Rattle.alog_server.specs.Ends.{EachEnds, EndsSo}
use Rattle.alog_server.specs.declared.seats.Seat.{Seat}
use Rattle.alog_server.proofs.Crosses.{seat_send}
use Rattle.alog_server.proofs.SharedEnding.{each_ends, refill}
use Rattle.alog_server.proofs.seats.work_all.Lts.{arg-2-1}
use Rattle.alog_server.proofs.seats.work_all.Goals as goal

pub for_each_mut-requires-send-T : goal.for_each_mut-requires-send-T
for_each_mut-requires-send-T g c κs within =
    let h : IsSend (param 0 g.row.H) = c.type_bounds.send-H in
    let e : IsSend (param 3 g.row.W-Error) = c.type_bounds.send-W-Error in
    param_send 1
    (arg-2-1 g.row.H g.row.R g.row.W g.row.W-Error g.H.laws g.R.laws g.W.laws g.W.Error.laws g.H.Home g.H.Home-dict g.R.Threads
    g.R.Threads-dict g.W.Work g.W.Work-dict g.H.Destruct-dict g.W.Error.Destruct-dict κs) (arg_send _ no _ (seat_send _ _ g.H.Home h e))

pub returns-clause-ends : goal.returns-clause-ends
returns-clause-ends g c =
    let xs = c.args.seats.now.items in
    let ys = c.for_each_mut.new.s in
    let gives = g.W.Work.ends c.args.work.now in
    let error = λ (s : Seat g.row.H.Denot g.row.W-Error.Denot). s.error in
    let same : length ys ≡ length xs = c.for_each_mut.auto.s ∙ ap length c.as_mut_slice.ensures.value in
    let at : (i : ℕ) (d : Seat g.row.H.Denot g.row.W-Error.Denot) → i < length ys → EndsSo (gives (0 + i)) (error (slice_index_or ys i d)) =
    λ i d below.
    let did = (c.for_each_mut.ensures i d (omega (arith, below, c.for_each_mut.auto.s))).1 in
    subst (λ (s : Seat g.row.H.Denot g.row.W-Error.Denot). EndsSo (gives (0 + i)) (error s)) did.left
    (subst (λ n. EndsSo (gives n) (error did.after_call.now)) (omega arith) did.call) in
    subst (λ (l : List (Seat g.row.H.Denot g.row.W-Error.Denot)). EachEnds gives 0 (map error l))
    (sym (refill c.args.seats.now.len xs ys (omega (arith, same, c.args.seats.now.ok.0)) (sym same))) (each_ends gives error 0 ys at)
