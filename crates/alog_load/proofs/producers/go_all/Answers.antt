use Rattle.std.proofs.Common.{◌≡◌, ◌<◌, ◌∙◌, ℕ, List, length, ap, sym, subst, arith}
use Rattle.std.specs.Prelude.{slice_index_or}
use denote.Param.Send.{sendable}
use Rattle.alog_load.specs.Load.{Goes}
use Rattle.alog_load.specs.declared.load_seat.LoadSeat.{LoadSeat}
use Rattle.alog_load.proofs.Crosses.{load_seat_send}
use Rattle.alog_load.proofs.Going.{each_of}
use Rattle.alog_load.proofs.producers.go_all.Goals as goal
use Rattle.alog_pool.specs.Places.{Each2}
use Rattle.alog_server.proofs.SharedEnding.{refill}

pub for_each_mut-requires-send-T : goal.for_each_mut-requires-send-T
for_each_mut-requires-send-T g c κs within = search (sendable, load_seat_send) depth 9

pub returns : goal.returns
returns g c =
    let xs = c.args.seats.now.items in
    let ys = c.for_each_mut.new.s in
    let R : LoadSeat → LoadSeat → Type 0 = Goes c.args.loggers c.args.messages in
    let value = c.as_mut_slice.ensures.value in
    let same : length ys ≡ length xs = c.for_each_mut.auto.s ∙ ap (λ (l : List LoadSeat). length l) value in
    let at : (i : ℕ) (d : LoadSeat) → i < length xs → R (slice_index_or xs i d) (slice_index_or ys i d) =
    λ i d below.
    let did = (c.for_each_mut.ensures i d (omega (arith, below, same, c.for_each_mut.auto.s))).1 in
    let now = did.argument_is ∙ ap (λ (l : List LoadSeat). slice_index_or l i d) value in
    subst (λ (s : LoadSeat). R s (slice_index_or ys i d)) now (subst (λ (s : LoadSeat). R did.argument.now s) did.left did.call) in
    subst (λ (l : List LoadSeat). Each2 R xs l)
    (sym (refill c.args.seats.now.len xs ys (omega (arith, same, c.args.seats.now.ok.0)) (sym same))) (each_of R xs ys same at)
