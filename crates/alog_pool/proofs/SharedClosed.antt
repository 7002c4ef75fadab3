-- The sinks of a pool, when all places have come back.
use Rattle.std.proofs.Common.{◌≡◌, ℕ, suc, ◌+◌, Bool, List, [], ◌∷◌, ◌++◌, map, length, refl, ap, subst, ◌∙◌, arith}
use Rattle.std.specs.List.{AllByRecursion}
use Rattle.std.proofs.lemmas.List.{length-map}
use Rattle.alog_format.specs.Buffer.{Buffer}
use Rattle.alog_lane.specs.Calls.{Closes, LaneId}
use Rattle.alog_lane.specs.Seats as lane
use Rattle.alog_lane.specs.Turns.{Turned}
use Rattle.alog_lane.specs.declared.seat.TheConstants.{ALL_PARTS}
use Rattle.alog_msg.specs.declared.item.Item.{Item}
use Rattle.alog_pool.specs.Back.{seat_member}
use Rattle.alog_pool.specs.SinkSeat.{Answer, SinkSeatView}
use Rattle.alog_pool.specs.Collected.{HasPlacesBack, HaveBack, IsClosing}
use Rattle.alog_pool.specs.Deeds.{IsCounted, faults_in}
use Rattle.alog_pool.specs.Places.{Each3}
use Rattle.alog_pool.specs.Pool.{IsUnused, lanes_of}
use Rattle.alog_pool.specs.Report.{AreClosed, IsClosed}
use Rattle.alog_pool.specs.Rows.{heads, tails}
use Rattle.alog_pool.proofs.SharedBack.{sum_capped}
use Rattle.alog_sink.specs.Files.{Files}
use Rattle.alog_sink.specs.Sinks.{Turns}
use Rattle.alog_sink.specs.declared.sink.Sink.{Sink}

module _ {A : Type 0} (P : A → Type 0) where
  heads_all : (rows : List (List A)) → AllByRecursion (λ (row : List A). AllByRecursion P row) rows → AllByRecursion P (heads rows)
  heads_all [] all = tt
  heads_all ([] ∷ rows) all = heads_all rows all.1
  heads_all ((x ∷ xs) ∷ rows) all = (all.0.0, heads_all rows all.1)

  tails_all : (rows : List (List A)) → AllByRecursion (λ (row : List A). AllByRecursion P row) rows
      → AllByRecursion (λ (row : List A). AllByRecursion P row) (tails rows)
  tails_all [] all = tt
  tails_all ([] ∷ rows) all = (tt, tails_all rows all.1)
  tails_all ((x ∷ xs) ∷ rows) all = (all.0.1, tails_all rows all.1)

module _ {A : Type 0} where
  heads_length : (n : ℕ) (rows : List (List A)) → AllByRecursion (λ (row : List A). length row ≡ suc n) rows → length (heads rows) ≡ length rows
  heads_length n [] all = refl
  heads_length n ([] ∷ rows) all = let none = all.0 in absurd (omega (arith, none))
  heads_length n ((x ∷ xs) ∷ rows) all = λ i. suc (heads_length n rows all.1 i)

  tails_length : (rows : List (List A)) → length (tails rows) ≡ length rows
  tails_length [] = refl
  tails_length ([] ∷ rows) = λ i. suc (tails_length rows i)
  tails_length ((x ∷ xs) ∷ rows) = λ i. suc (tails_length rows i)

  tails_even : (n : ℕ) (rows : List (List A)) → AllByRecursion (λ (row : List A). length row ≡ suc n) rows
      → AllByRecursion (λ (row : List A). length row ≡ n) (tails rows)
  tails_even n [] all = tt
  tails_even n ([] ∷ rows) all = let none = all.0 in absurd (omega (arith, none))
  tails_even n ((x ∷ xs) ∷ rows) all = let one = all.0 in (omega (arith, one), tails_even n rows all.1)

module _ {S : Type 0} where
  -- a place that took back a part for each worker has all
  pub all_back : (n : ℕ) (bs cs : List (SinkSeatView S)) (rows : List (List (SinkSeatView S))) → HaveBack bs cs rows → length rows ≡ n
      → AllByRecursion (λ (row : List (SinkSeatView S)). length row ≡ length bs) rows
      → AllByRecursion (λ (b : SinkSeatView S). b.seat.known.parts + n ≡ ALL_PARTS) bs
      → AllByRecursion (λ (b : SinkSeatView S). b.seat.known.parts ≡ ALL_PARTS) cs
  all_back n [] [] rows back many even left = tt
  all_back n [] (c ∷ cs) rows back many even left = absurd back
  all_back n (b ∷ bs) [] rows back many even left = absurd back
  all_back n (b ∷ bs) (c ∷ cs) rows back many even left =
      let f : SinkSeatView S → lane.Member (Turned Item Buffer Answer) = λ p. seat_member p in
      let parts = back.0.seats.parts in
      let mapped : length (map f (heads rows)) ≡ length (heads rows) = length-map (heads rows) f in
      let column = heads_length (length bs) rows even in
      let one = left.0 in (
        omega (arith, parts, mapped, column, many, one),
        all_back n bs cs (tails rows) back.1 (tails_length rows ∙ many) (tails_even (length bs) rows even) left.1,
      )

  module _ (tells : Bool) (files : S → Files) (failures : S → ℕ) where
    one_closed : {b c : SinkSeatView S} {column : List (SinkSeatView S)} {s : Sink S} {faults : ℕ} → HasPlacesBack b c column
        → IsClosing tells files failures c s faults → IsUnused b → AllByRecursion IsCounted column
        → IsClosed tells files failures b.lane column s faults
    one_closed {c} {column} {s} back closing unused counted =
        let M : Type 0 = List (lane.Member (Turned Item Buffer Answer)) in
        let f : SinkSeatView S → lane.Member (Turned Item Buffer Answer) = λ p. seat_member p in
        record {
          end = c.seat.known;
          closes = subst (λ (l : LaneId (Sink S)). Closes (Turns tells files failures) l.first c.seat.known s) back.lane closing.closes;
          own = back.seats.own ∙ unused.own;
          members = back.seats.joined ∙ ap (λ (l : M). l ++ map f column) unused.joined;
          faults_are = closing.faults_are ∙ back.faults
              ∙ sum_capped (λ (p : SinkSeatView S). p.faults) (λ (p : SinkSeatView S). faults_in p.seat.known.own) column counted;
        }

    -- The places of the workers came back to places that were never used, and each fault at them was counted.
    pub record CameBack (bs cs : List (SinkSeatView S)) (rows : List (List (SinkSeatView S))) : Type 0 where
      pub back : HaveBack bs cs rows
      pub unused : AllByRecursion IsUnused bs
      pub counted : AllByRecursion (λ (row : List (SinkSeatView S)). AllByRecursion IsCounted row) rows

    pub all_closed : (bs cs : List (SinkSeatView S)) (rows : List (List (SinkSeatView S))) (sinks : List (Sink S)) (faults : List ℕ)
        → CameBack bs cs rows → Each3 (IsClosing tells files failures) cs sinks faults
        → AreClosed tells files failures (lanes_of bs) rows sinks faults
    all_closed [] [] rows [] [] all closing = tt
    all_closed [] [] rows [] (f ∷ fs) all closing = absurd closing
    all_closed [] [] rows (s ∷ ss) fs all closing = absurd closing
    all_closed [] (c ∷ cs) rows ss fs all closing = absurd all.back
    all_closed (b ∷ bs) [] rows ss fs all closing = absurd all.back
    all_closed (b ∷ bs) (c ∷ cs) rows [] fs all closing = absurd closing
    all_closed (b ∷ bs) (c ∷ cs) rows (s ∷ ss) [] all closing = absurd closing
    all_closed (b ∷ bs) (c ∷ cs) rows (s ∷ ss) (f ∷ fs) all closing = (
      one_closed all.back.0 closing.0 all.unused.0 (heads_all IsCounted rows all.counted),
      all_closed bs cs (tails rows) ss fs
          (record { back = all.back.1; unused = all.unused.1; counted = tails_all IsCounted rows all.counted }) closing.1,
    )
