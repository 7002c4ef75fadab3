-- The parts that a pool has left, when places gave one away.
use Rattle.std.proofs.Common.{◌≡◌, ◌<◌, ℕ, suc, ◌+◌, List, [], ◌∷◌, length, refl, ap, ◌∙◌, arith}
use Rattle.std.specs.List.{AllByRecursion}
use Rattle.alog_lane.specs.declared.seat.TheConstants.{ALL_PARTS}
use Rattle.alog_pool.specs.SinkSeat.{SinkSeatView}
use Rattle.alog_pool.specs.BacktraceSeat.{BacktraceSeatView}
use Rattle.alog_pool.specs.Places.{Each3, IsPart, IsBacktraceSeatPart}
use Rattle.alog_pool.specs.Pool.{IsIdleSeat, IsNew, IsUnused, backtrace_seat_lanes, lanes_of}
use Rattle.alog_pool.specs.Producer.{AreBacktraceSeats}

module _ {S : Type 0} where
  pub sink_seat_parts_left : (n : ℕ) (old new given : List (SinkSeatView S)) → n < 64 → Each3 IsPart old new given
      → AllByRecursion (λ (b : SinkSeatView S). b.seat.known.parts + n ≡ ALL_PARTS) old
      → AllByRecursion (λ (b : SinkSeatView S). b.seat.known.parts + (n + 1) ≡ ALL_PARTS) new
  sink_seat_parts_left n [] [] [] few each all = tt
  sink_seat_parts_left n [] [] (d ∷ ds) few each all = absurd each
  sink_seat_parts_left n [] (c ∷ cs) given few each all = absurd each
  sink_seat_parts_left n (b ∷ bs) [] given few each all = absurd each
  sink_seat_parts_left n (b ∷ bs) (c ∷ cs) [] few each all = absurd each
  sink_seat_parts_left n (b ∷ bs) (c ∷ cs) (d ∷ ds) few each all =
      let one = all.0 in
      let kept = ap (λ k. k.parts) each.0.split.kept in
      (omega (arith, few, one, kept), sink_seat_parts_left n bs cs ds few each.1 all.1)

  pub sink_seat_limits : (limit : ℕ) (old new given : List (SinkSeatView S)) → Each3 IsPart old new given
      → AllByRecursion (λ (b : SinkSeatView S). b.limit ≡ limit) old
      → AllByRecursion (λ (b : SinkSeatView S). b.limit ≡ limit) new × AllByRecursion (λ (b : SinkSeatView S). b.limit ≡ limit) given
  sink_seat_limits limit [] [] [] each all = (tt, tt)
  sink_seat_limits limit [] [] (d ∷ ds) each all = absurd each
  sink_seat_limits limit [] (c ∷ cs) given each all = absurd each
  sink_seat_limits limit (b ∷ bs) [] given each all = absurd each
  sink_seat_limits limit (b ∷ bs) (c ∷ cs) [] each all = absurd each
  sink_seat_limits limit (b ∷ bs) (c ∷ cs) (d ∷ ds) each all =
      let rest = sink_seat_limits limit bs cs ds each.1 all.1 in
      ((each.0.same.1 ∙ all.0, rest.0), (each.0.given_lane.1 ∙ all.0, rest.1))

  pub same_lanes : (old new given : List (SinkSeatView S)) → Each3 IsPart old new given
      → (lanes_of new ≡ lanes_of old) × (lanes_of given ≡ lanes_of old)
  same_lanes [] [] [] each = (refl, refl)
  same_lanes [] [] (d ∷ ds) each = absurd each
  same_lanes [] (c ∷ cs) given each = absurd each
  same_lanes (b ∷ bs) [] given each = absurd each
  same_lanes (b ∷ bs) (c ∷ cs) [] each = absurd each
  same_lanes (b ∷ bs) (c ∷ cs) (d ∷ ds) each =
      let rest = same_lanes bs cs ds each.1 in
      ((λ k. each.0.same.0 k ∷ rest.0 k), (λ k. each.0.given_lane.0 k ∷ rest.1 k))

  pub given_new : (old new given : List (SinkSeatView S)) → Each3 IsPart old new given → AllByRecursion IsNew given
  given_new [] [] [] each = tt
  given_new [] [] (d ∷ ds) each = absurd each
  given_new [] (c ∷ cs) given each = absurd each
  given_new (b ∷ bs) [] given each = absurd each
  given_new (b ∷ bs) (c ∷ cs) [] each = absurd each
  given_new (b ∷ bs) (c ∷ cs) (d ∷ ds) each =
      let split = each.0.split.new_seat in (
        (
          ap (λ k. k.parts) split,
          record { joined = ap (λ k. k.joined) split; own = ap (λ k. k.own) split; faults = each.0.given_lane.2 },
        ),
        given_new bs cs ds each.1,
      )

  pub still_unused : (old new given : List (SinkSeatView S)) → Each3 IsPart old new given → AllByRecursion IsUnused old
      → AllByRecursion IsUnused new
  still_unused [] [] [] each all = tt
  still_unused [] [] (d ∷ ds) each all = absurd each
  still_unused [] (c ∷ cs) given each all = absurd each
  still_unused (b ∷ bs) [] given each all = absurd each
  still_unused (b ∷ bs) (c ∷ cs) [] each all = absurd each
  still_unused (b ∷ bs) (c ∷ cs) (d ∷ ds) each all =
      let kept = each.0.split.kept in (
        record {
          joined = ap (λ k. k.joined) kept ∙ all.0.joined;
          own = ap (λ k. k.own) kept ∙ all.0.own;
          faults = each.0.same.2 ∙ all.0.faults;
        },
        still_unused bs cs ds each.1 all.1,
      )

pub backtrace_seat_parts_left : (n : ℕ) (old new given : List BacktraceSeatView) → n < 4096 → Each3 IsBacktraceSeatPart old new given
    → AllByRecursion (λ (k : BacktraceSeatView). k.seat.known.parts + n ≡ ALL_PARTS) old
    → AllByRecursion (λ (k : BacktraceSeatView). k.seat.known.parts + (n + 1) ≡ ALL_PARTS) new
backtrace_seat_parts_left n [] [] [] few each all = tt
backtrace_seat_parts_left n [] [] (d ∷ ds) few each all = absurd each
backtrace_seat_parts_left n [] (c ∷ cs) given few each all = absurd each
backtrace_seat_parts_left n (b ∷ bs) [] given few each all = absurd each
backtrace_seat_parts_left n (b ∷ bs) (c ∷ cs) [] few each all = absurd each
backtrace_seat_parts_left n (b ∷ bs) (c ∷ cs) (d ∷ ds) few each all =
    let one = all.0 in
    let kept = ap (λ k. k.parts) each.0.split.kept in
    (omega (arith, few, one, kept), backtrace_seat_parts_left n bs cs ds few each.1 all.1)

pub backtrace_seats_limits : (limit : ℕ) (old new given : List BacktraceSeatView) → Each3 IsBacktraceSeatPart old new given → AreBacktraceSeats limit old
    → AreBacktraceSeats limit new × AreBacktraceSeats limit given
backtrace_seats_limits limit [] [] [] each all = (tt, tt)
backtrace_seats_limits limit [] [] (d ∷ ds) each all = absurd each
backtrace_seats_limits limit [] (c ∷ cs) given each all = absurd each
backtrace_seats_limits limit (b ∷ bs) [] given each all = absurd each
backtrace_seats_limits limit (b ∷ bs) (c ∷ cs) [] each all = absurd each
backtrace_seats_limits limit (b ∷ bs) (c ∷ cs) (d ∷ ds) each all =
    let rest = backtrace_seats_limits limit bs cs ds each.1 all.1 in (
      (ap (λ l. l.first.limit) each.0.same.0 ∙ all.0, rest.0),
      (ap (λ l. l.first.limit) each.0.given_lane ∙ all.0, rest.1),
    )

pub still_idle : (old new given : List BacktraceSeatView) → Each3 IsBacktraceSeatPart old new given → AllByRecursion IsIdleSeat old
    → AllByRecursion IsIdleSeat new
still_idle [] [] [] each all = tt
still_idle [] [] (d ∷ ds) each all = absurd each
still_idle [] (c ∷ cs) given each all = absurd each
still_idle (b ∷ bs) [] given each all = absurd each
still_idle (b ∷ bs) (c ∷ cs) [] each all = absurd each
still_idle (b ∷ bs) (c ∷ cs) (d ∷ ds) each all =
    let kept = each.0.split.kept in (
      record { joined = ap (λ k. k.joined) kept ∙ all.0.joined; own = ap (λ k. k.own) kept ∙ all.0.own },
      still_idle bs cs ds each.1 all.1,
    )

pub each3_lengths : {A B C : Type 0} (R : A → B → C → Type 0) (xs : List A) (ys : List B) (zs : List C) → Each3 R xs ys zs
    → (length ys ≡ length xs) × (length zs ≡ length xs)
each3_lengths R [] [] [] each = (refl, refl)
each3_lengths R [] [] (z ∷ zs) each = absurd each
each3_lengths R [] (y ∷ ys) zs each = absurd each
each3_lengths R (x ∷ xs) [] zs each = absurd each
each3_lengths R (x ∷ xs) (y ∷ ys) [] each = absurd each
each3_lengths R (x ∷ xs) (y ∷ ys) (z ∷ zs) each =
    let rest = each3_lengths R xs ys zs each.1 in ((λ k. suc (rest.0 k)), (λ k. suc (rest.1 k)))

pub same_backtrace_seats : (old new given : List BacktraceSeatView) → Each3 IsBacktraceSeatPart old new given
    → (backtrace_seat_lanes given ≡ backtrace_seat_lanes old) × (backtrace_seat_lanes new ≡ backtrace_seat_lanes old)
same_backtrace_seats [] [] [] each = (refl, refl)
same_backtrace_seats [] [] (d ∷ ds) each = absurd each
same_backtrace_seats [] (c ∷ cs) given each = absurd each
same_backtrace_seats (b ∷ bs) [] given each = absurd each
same_backtrace_seats (b ∷ bs) (c ∷ cs) [] each = absurd each
same_backtrace_seats (b ∷ bs) (c ∷ cs) (d ∷ ds) each =
    let rest = same_backtrace_seats bs cs ds each.1 in
    ((λ k. each.0.given_lane k ∷ rest.0 k), (λ k. each.0.same.0 k ∷ rest.1 k))
