-- Places that come back, worker by worker.
use Rattle.std.proofs.Common.{◌≡◌, List, [], ◌∷◌, ◌++◌, refl, sym, ap, subst, ◌∙◌}
use Rattle.std.specs.List.{AllByRecursion}
use Rattle.std.proofs.lemmas.List.{map-append}
use Rattle.alog_format.specs.Buffer.{Buffer}
use Rattle.alog_lane.specs.Seats as lane
use Rattle.alog_lane.specs.Turns.{Turned}
use Rattle.alog_msg.specs.declared.item.Item.{Item}
use Rattle.alog_pool.specs.Back.{HasSeatsBack, seat_member}
use Rattle.alog_pool.specs.SinkSeat.{Answer, SinkSeatView, place_of, places_of}
use Rattle.alog_pool.specs.Collected.{HasPlacesBack, HaveBack, TakesBack}
use Rattle.alog_pool.specs.Places.{Each2, Each3, IsSameLane}
use Rattle.alog_pool.specs.Pool.{IsNew, IsUnused, lanes_of}
use Rattle.alog_pool.specs.Rows.{heads, tails}
use Rattle.alog_pool.proofs.SharedBack.{seats_start, seats_one, sum_capped_more}

module _ {A : Type 0} where
  pub heads_more : (rows : List (List A)) (x : A) (xs : List A) → heads (rows ++ (x ∷ xs) ∷ []) ≡ heads rows ++ x ∷ []
  heads_more [] x xs = refl
  heads_more ([] ∷ rows) x xs = heads_more rows x xs
  heads_more ((y ∷ ys) ∷ rows) x xs = ap (λ (l : List A). y ∷ l) (heads_more rows x xs)

  pub tails_more : (rows : List (List A)) (x : A) (xs : List A) → tails (rows ++ (x ∷ xs) ∷ []) ≡ tails rows ++ xs ∷ []
  tails_more [] x xs = refl
  tails_more ([] ∷ rows) x xs = ap (λ (l : List (List A)). [] ∷ l) (tails_more rows x xs)
  tails_more ((y ∷ ys) ∷ rows) x xs = ap (λ (l : List (List A)). ys ∷ l) (tails_more rows x xs)

module _ {S : Type 0} where
  -- a seat of one part, into which none was joined
  abbrev pub IsOne : SinkSeatView S → Type 0
  IsOne b = (b.seat.known.parts ≡ 1) × (b.seat.known.joined ≡ [])

  start : (b : SinkSeatView S) → IsUnused b → HasPlacesBack b b []
  start b unused = record { lane = refl; seats = seats_start b.seat.known; faults = unused.faults }

  pub rows_start : (bs : List (SinkSeatView S)) → AllByRecursion IsUnused bs → HaveBack bs bs []
  rows_start [] all = tt
  rows_start (b ∷ bs) all = (start b all.0, rows_start bs all.1)

  one_more : (b c d w : SinkSeatView S) (column : List (SinkSeatView S)) → HasPlacesBack b c column → TakesBack c d w → IsOne w
      → HasPlacesBack b d (column ++ w ∷ [])
  one_more b c d w column back takes one =
      let f : SinkSeatView S → lane.Member (Turned Item Buffer Answer) = λ p. seat_member p in
      record {
        lane = takes.lane ∙ back.lane;
        seats = subst (λ (ms : List (lane.Member (Turned Item Buffer Answer))). HasSeatsBack b.seat.known d.seat.known ms)
            (sym (map-append f column (w ∷ [])))
            (seats_one w.seat.known {l = d.seat.known} back.seats takes.joined one.1 one.0);
        faults = takes.faults ∙ sum_capped_more (λ (p : SinkSeatView S). p.faults) column w c.faults back.faults;
      }

  pub rows_more : (bs cs ds ws : List (SinkSeatView S)) (rows : List (List (SinkSeatView S))) → HaveBack bs cs rows → Each3 TakesBack cs ds ws
      → AllByRecursion IsOne ws → HaveBack bs ds (rows ++ ws ∷ [])
  rows_more [] [] [] [] rows back takes ones = tt
  rows_more [] [] [] (w ∷ ws) rows back takes ones = absurd takes
  rows_more [] [] (d ∷ ds) ws rows back takes ones = absurd takes
  rows_more [] (c ∷ cs) ds ws rows back takes ones = absurd back
  rows_more (b ∷ bs) [] ds ws rows back takes ones = absurd back
  rows_more (b ∷ bs) (c ∷ cs) [] ws rows back takes ones = absurd takes
  rows_more (b ∷ bs) (c ∷ cs) (d ∷ ds) [] rows back takes ones = absurd takes
  rows_more (b ∷ bs) (c ∷ cs) (d ∷ ds) (w ∷ ws) rows back takes ones = (
    subst (λ (l : List (SinkSeatView S)). HasPlacesBack b d l) (sym (heads_more rows w ws))
        (one_more b c d w (heads rows) back.0 takes.0 ones.0),
    subst (λ (l : List (List (SinkSeatView S))). HaveBack bs ds l) (sym (tails_more rows w ws))
        (rows_more bs cs ds ws (tails rows) back.1 takes.1 ones.1),
  )

  -- the lanes stay
  pub rows_lanes : (bs cs : List (SinkSeatView S)) (rows : List (List (SinkSeatView S))) → HaveBack bs cs rows → lanes_of cs ≡ lanes_of bs
  rows_lanes [] [] rows back = refl
  rows_lanes [] (c ∷ cs) rows back = absurd back
  rows_lanes (b ∷ bs) [] rows back = absurd back
  rows_lanes (b ∷ bs) (c ∷ cs) rows back = λ i. back.0.lane i ∷ rows_lanes bs cs (tails rows) back.1 i

  pub place_lanes : (bs cs : List (SinkSeatView S)) → places_of cs ≡ places_of bs → lanes_of cs ≡ lanes_of bs
  place_lanes [] [] same = refl
  place_lanes [] (c ∷ cs) same = absurd (cc same)
  place_lanes (b ∷ bs) [] same = absurd (cc same)
  place_lanes (b ∷ bs) (c ∷ cs) same =
      let one : place_of c ≡ place_of b = cc same in
      let rest : places_of cs ≡ places_of bs = cc same in
      (λ i. (one i).lane ∷ place_lanes bs cs rest i)

  pub each_lane : (bs cs : List (SinkSeatView S)) → lanes_of cs ≡ lanes_of bs → Each2 IsSameLane bs cs
  each_lane [] [] same = tt
  each_lane [] (c ∷ cs) same = absurd (cc same)
  each_lane (b ∷ bs) [] same = absurd (cc same)
  each_lane (b ∷ bs) (c ∷ cs) same =
      let one : c.lane ≡ b.lane = cc same in
      let rest : lanes_of cs ≡ lanes_of bs = cc same in
      (one, each_lane bs cs rest)

  -- places as they began have one part still
  pub ones : (bs cs : List (SinkSeatView S)) → places_of cs ≡ places_of bs → AllByRecursion IsNew bs → AllByRecursion IsOne cs
  ones [] [] same all = tt
  ones [] (c ∷ cs) same all = absurd (cc same)
  ones (b ∷ bs) [] same all = absurd (cc same)
  ones (b ∷ bs) (c ∷ cs) same all =
      let one : place_of c ≡ place_of b = cc same in
      let rest : places_of cs ≡ places_of bs = cc same in
      ((ap (λ p. p.parts) one ∙ all.0.0, ap (λ p. p.joined) one ∙ all.0.1.joined), ones bs cs rest all.1)
