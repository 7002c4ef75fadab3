-- Lists that tell something of each place, as its lane.
use Rattle.std.proofs.Common.{◌≡◌, ◌<◌, ℕ, zero, suc, List, [], ◌∷◌, ◌++◌, length, map, ap, refl, sym, subst, ◌∙◌, arith}
use Rattle.std.proofs.lemmas.List.{length-map, map-append}
use Rattle.std.specs.List.{AllByRecursion}
use Rattle.std.specs.Prelude.{slice_index_or}
use Rattle.alog_lane.specs.Calls.{LaneId}
use Rattle.alog_pool.proofs.SharedSharing.{Sharing}
use Rattle.alog_pool.specs.BacktraceSeat.{BacktraceSeatView}
use Rattle.alog_pool.specs.Places.{Each3, IsBacktraceSeatPart}
use Rattle.alog_pool.specs.Pool.{IsIdleSeat, backtrace_seat_lanes}
use Rattle.alog_registry.specs.Backtrace.{Room}

module _ {A L : Type 0} (f : A → L) where
  -- one more was added to both
  pub mapped_more : (xs : List A) (ls : List L) (x : A) {l : L} → map f xs ≡ ls → f x ≡ l → map f (xs ++ x ∷ []) ≡ ls ++ l ∷ []
  mapped_more xs ls x told one = map-append f xs (x ∷ []) ∙ (λ i. told i ++ one i ∷ [])

  pub mapped_length : (xs : List A) (ls : List L) → map f xs ≡ ls → length ls ≡ length xs
  mapped_length xs ls told = ap (λ (l : List L). length l) (sym told) ∙ length-map xs f

  mapped_at : (i : ℕ) (xs : List A) (d : A) (e : L) → i < length xs → slice_index_or (map f xs) i e ≡ f (slice_index_or xs i d)
  mapped_at i [] d e low = absurd (omega (arith, low))
  mapped_at zero (x ∷ xs) d e low = refl
  mapped_at (suc i) (x ∷ xs) d e low = mapped_at i xs d e (omega (arith, low))

  next_of_old : {C : Type 0} (R : A → A → C → Type 0) (i : ℕ) (old new : List A) (given : List C) (d : A) (e : L)
      → i < length new → Sharing R i old new given → slice_index_or (map f old) i e ≡ f (slice_index_or new i d)
  next_of_old R zero old new given d e low m =
      subst (λ (l : List A). slice_index_or (map f l) 0 e ≡ f (slice_index_or new 0 d)) m.0 (mapped_at 0 new d e low)
  next_of_old R (suc i) [] new given d e low m = absurd m
  next_of_old R (suc i) (x ∷ xs) [] given d e low m = absurd m
  next_of_old R (suc i) (x ∷ xs) (y ∷ ys) [] d e low m = absurd m
  next_of_old R (suc i) (x ∷ xs) (y ∷ ys) (z ∷ zs) d e low m = next_of_old R i xs ys zs d e (omega (arith, low)) m.1

  -- what is told of the next, which is still as it was
  pub mapped_next : {C : Type 0} (R : A → A → C → Type 0) (i : ℕ) (old new : List A) (given : List C) (ls : List L) (d : A) (e : L)
      → i < length new → map f old ≡ ls → Sharing R i old new given → slice_index_or ls i e ≡ f (slice_index_or new i d)
  mapped_next R i old new given ls d e low told m =
      ap (λ (l : List L). slice_index_or l i e) (sym told) ∙ next_of_old R i old new given d e low m

-- the rooms of backtraces, by their lanes
pub rooms_at : (ks : List BacktraceSeatView)
    → map (λ (l : LaneId Room). l.first) (backtrace_seat_lanes ks) ≡ map (λ (k : BacktraceSeatView). k.lane.first) ks
rooms_at [] = refl
rooms_at (k ∷ ks) = λ i. k.lane.first ∷ rooms_at ks i

-- places at backtraces that were given away kept nothing
pub given_idle : (old new given : List BacktraceSeatView) → Each3 IsBacktraceSeatPart old new given → AllByRecursion IsIdleSeat given
given_idle [] [] [] each = tt
given_idle [] [] (d ∷ ds) each = absurd each
given_idle [] (c ∷ cs) given each = absurd each
given_idle (b ∷ bs) [] given each = absurd each
given_idle (b ∷ bs) (c ∷ cs) [] each = absurd each
given_idle (b ∷ bs) (c ∷ cs) (d ∷ ds) each =
    let new_seat = each.0.split.new_seat in (
      record { joined = ap (λ k. k.joined) new_seat; own = ap (λ k. k.own) new_seat },
      given_idle bs cs ds each.1,
    )
