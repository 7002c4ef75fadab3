-- What a pool has before it has workers.
use Rattle.std.proofs.Common.{◌≡◌, ◌+◌, ℕ, Option, Some, None, List, [], ◌∷◌, map, ap, refl, sym, arith}
use Rattle.std.specs.Option.{option_map}
use Rattle.std.specs.List.{AllByRecursion}
use Rattle.alog_lane.specs.Calls.{LaneId}
use Rattle.alog_lane.specs.declared.seat.TheConstants.{ALL_PARTS}
use Rattle.alog_pool.specs.SinkSeat.{SinkSeatView}
use Rattle.alog_pool.specs.BacktraceSeat.{BacktraceSeatView}
use Rattle.alog_pool.specs.Places.{Each2, IsFirst, IsBacktraceSeatOf}
use Rattle.alog_pool.specs.Pool.{IsIdleSeat, IsUnused, lanes_of}
use Rattle.alog_pool.specs.Producer.{AreBacktraceSeats}
use Rattle.alog_registry.specs.Backtrace.{room_for}
use Rattle.alog_registry.specs.declared.logger.Logger.{Logger}
use Rattle.alog_registry.specs.declared.logger.Spec.{Spec}
use Rattle.alog_sink.specs.declared.sink.Sink.{Sink}

module _ {S : Type 0} (limit : ℕ) where
  pub first_parts : (sinks : List (Sink S)) (bs : List (SinkSeatView S)) → Each2 (IsFirst limit) sinks bs
      → AllByRecursion (λ (b : SinkSeatView S). b.seat.known.parts + 0 ≡ ALL_PARTS) bs
  first_parts [] [] each = tt
  first_parts [] (b ∷ bs) each = absurd each
  first_parts (s ∷ sinks) [] each = absurd each
  first_parts (s ∷ sinks) (b ∷ bs) each =
      let one = ap (λ k. k.parts) each.0.known in (omega (arith, one), first_parts sinks bs each.1)

  pub first_limits : (sinks : List (Sink S)) (bs : List (SinkSeatView S)) → Each2 (IsFirst limit) sinks bs
      → AllByRecursion (λ (b : SinkSeatView S). b.limit ≡ limit) bs
  first_limits [] [] each = tt
  first_limits [] (b ∷ bs) each = absurd each
  first_limits (s ∷ sinks) [] each = absurd each
  first_limits (s ∷ sinks) (b ∷ bs) each = (each.0.limit_is, first_limits sinks bs each.1)

  pub first_unused : (sinks : List (Sink S)) (bs : List (SinkSeatView S)) → Each2 (IsFirst limit) sinks bs → AllByRecursion IsUnused bs
  first_unused [] [] each = tt
  first_unused [] (b ∷ bs) each = absurd each
  first_unused (s ∷ sinks) [] each = absurd each
  first_unused (s ∷ sinks) (b ∷ bs) each =
      let known = each.0.known in (
        record { joined = ap (λ k. k.joined) known; own = ap (λ k. k.own) known; faults = each.0.faults },
        first_unused sinks bs each.1,
      )

  pub first_lanes : (sinks : List (Sink S)) (bs : List (SinkSeatView S)) → Each2 (IsFirst limit) sinks bs
      → map (λ (l : LaneId (Sink S)). l.first) (lanes_of bs) ≡ sinks
  first_lanes [] [] each = refl
  first_lanes [] (b ∷ bs) each = absurd each
  first_lanes (s ∷ sinks) [] each = absurd each
  first_lanes (s ∷ sinks) (b ∷ bs) each = λ k. each.0.lane k ∷ first_lanes sinks bs each.1 k

module _ (limit : ℕ) where
  pub backtrace_seats_parts : (ls : List Logger) (ks : List BacktraceSeatView) → Each2 (IsBacktraceSeatOf limit) ls ks
      → AllByRecursion (λ (k : BacktraceSeatView). k.seat.known.parts + 0 ≡ ALL_PARTS) ks
  backtrace_seats_parts [] [] each = tt
  backtrace_seats_parts [] (k ∷ ks) each = absurd each
  backtrace_seats_parts (l ∷ ls) [] each = absurd each
  backtrace_seats_parts (l ∷ ls) (k ∷ ks) each = let one = ap (λ m. m.parts) each.0.known in (omega (arith, one), backtrace_seats_parts ls ks each.1)

  pub backtrace_seats_kept : (ls : List Logger) (ks : List BacktraceSeatView) → Each2 (IsBacktraceSeatOf limit) ls ks → AreBacktraceSeats limit ks
  backtrace_seats_kept [] [] each = tt
  backtrace_seats_kept [] (k ∷ ks) each = absurd each
  backtrace_seats_kept (l ∷ ls) [] each = absurd each
  backtrace_seats_kept (l ∷ ls) (k ∷ ks) each = (ap (λ r. r.limit) each.0.room, backtrace_seats_kept ls ks each.1)

  pub backtrace_seats_idle : (ls : List Logger) (ks : List BacktraceSeatView) → Each2 (IsBacktraceSeatOf limit) ls ks
      → AllByRecursion IsIdleSeat ks
  backtrace_seats_idle [] [] each = tt
  backtrace_seats_idle [] (k ∷ ks) each = absurd each
  backtrace_seats_idle (l ∷ ls) [] each = absurd each
  backtrace_seats_idle (l ∷ ls) (k ∷ ks) each =
      let known = each.0.known in
      (record { joined = ap (λ m. m.joined) known; own = ap (λ m. m.own) known }, backtrace_seats_idle ls ks each.1)

  pub backtrace_seats_rooms : (ls : List Logger) (ks : List BacktraceSeatView) → Each2 (IsBacktraceSeatOf limit) ls ks
      → map (λ (k : BacktraceSeatView). k.lane.first) ks ≡ map (λ (l : Logger). room_for l.spec.backtrace limit) ls
  backtrace_seats_rooms [] [] each = refl
  backtrace_seats_rooms [] (k ∷ ks) each = absurd each
  backtrace_seats_rooms (l ∷ ls) [] each = absurd each
  backtrace_seats_rooms (l ∷ ls) (k ∷ ks) each = λ i. each.0.room i ∷ backtrace_seats_rooms ls ks each.1 i

-- the logger whose spec was found
pub found_by : (o : Option Logger) (s : Spec) → Some s ≡ option_map (λ (l : Logger). l.spec) o
    → (l : Logger) × (o ≡ Some l) × (l.spec ≡ s)
found_by None s e = absurd (cc e)
found_by (Some l) s e = let same : s ≡ l.spec = cc e in (l, refl, sym same)
