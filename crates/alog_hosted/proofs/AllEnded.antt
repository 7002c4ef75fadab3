-- The places of a hosted pool at its end, from the first to the last of its calls.
use Rattle.std.proofs.Common.{◌≡◌, ℕ, suc, ◌+◌, ◌-◌, ◌^◌, min, Bool, List, [], ◌∷◌, ◌++◌, map, length, refl, sym, ap, subst, ◌∙◌, append-nil, arith}
use Rattle.std.specs.List.{AllByRecursion}
use Rattle.std.proofs.lemmas.List.{length-map}
use Rattle.alog_format.specs.Buffer.{Buffer}
use Rattle.alog_hosted.specs.Closing.{EndAll, GivesFaults}
use Rattle.alog_hosted.specs.Ends.{AreEnded, EndsPlace, IsEnded, WasWorker}
use Rattle.alog_hosted.specs.Lent.{HostedView}
use Rattle.alog_hosted.specs.Owed.{AreAlone}
use Rattle.alog_hosted.specs.Workers.{IsWorkerOf, WorkerView}
use Rattle.alog_lane.specs.Calls.{Closes, LaneId}
use Rattle.alog_lane.specs.Seats as lane
use Rattle.alog_lane.specs.Turns.{Turned}
use Rattle.alog_msg.specs.declared.item.Item.{Item}
use Rattle.alog_pool.proofs.SharedDeeds.{have_then, made_own}
use Rattle.alog_pool.proofs.SharedBack.{sum_capped}
use Rattle.alog_pool.specs.Back.{seat_member}
use Rattle.alog_pool.specs.Collected.{HasPlacesBack, HaveBack, TakesBack}
use Rattle.alog_pool.specs.Deeds.{Due, HasDone, HasMade, HaveMade, IsCounted, dues_on, faults_in}
use Rattle.alog_pool.specs.Places.{Each3}
use Rattle.alog_pool.specs.Pool.{IsUnused, lanes_of}
use Rattle.alog_pool.specs.Rows.{heads, tails}
use Rattle.alog_pool.specs.SinkSeat.{Answer, SinkSeatView, place_of, places_of}
use Rattle.alog_pool.specs.Working.{AreLimited}
use Rattle.alog_sink.specs.Files.{Files}
use Rattle.alog_sink.specs.Sinks.{Turns}
use Rattle.alog_sink.specs.declared.sink.Sink.{Sink}

abbrev Turn : Type 0
Turn = lane.Entry (Turned Item Buffer Answer)

abbrev One : Type 0
One = lane.Member (Turned Item Buffer Answer)

module _ {A : Type 0} (P : A → Type 0) where
  heads_all : (rows : List (List A)) → AllByRecursion (λ (row : List A). AllByRecursion P row) rows → AllByRecursion P (heads rows)
  heads_all [] all = tt
  heads_all ([] ∷ rows) all = heads_all rows all.1
  heads_all ((x ∷ xs) ∷ rows) all = (all.0.0, heads_all rows all.1)

  tails_all : (rows : List (List A)) → AllByRecursion (λ (row : List A). AllByRecursion P row) rows
      → AllByRecursion (λ (row : List A). AllByRecursion P row) (tails rows)
  tails_all [] all = tt
  tails_all ([] ∷ rows) all = (tt, tails_all rows all.1)
  tails_all ((x ∷ xs) ∷ rows) all = (all.0.1, tails_all rows all.1)

module _ {S : Type 0} where
  -- as many places as lanes
  pub many_lanes : (bs : List (SinkSeatView S)) (ls : List (LaneId (Sink S))) → lanes_of bs ≡ ls → length bs ≡ length ls
  many_lanes bs ls same = sym (length-map bs (λ (b : SinkSeatView S). b.lane)) ∙ ap (λ (l : List (LaneId (Sink S))). length l) same

  -- each worker has as many places as the pool
  pub rows_even : (hosted : HostedView S) (bs : List (SinkSeatView S)) (ws : List (WorkerView S)) → lanes_of bs ≡ hosted.lanes
      → AllByRecursion (IsWorkerOf hosted) ws
      → AllByRecursion (λ (row : List (SinkSeatView S)). length row ≡ length bs) (map (λ (w : WorkerView S). w.places) ws)
  rows_even hosted bs [] lanes all = tt
  rows_even hosted bs (w ∷ ws) lanes all = (
    many_lanes w.places hosted.lanes all.0.lanes ∙ sym (many_lanes bs hosted.lanes lanes),
    rows_even hosted bs ws lanes all.1,
  )

  pub rows_counted : (ws : List (WorkerView S)) → AllByRecursion WasWorker ws
      → AllByRecursion (λ (row : List (SinkSeatView S)). AllByRecursion IsCounted row) (map (λ (w : WorkerView S). w.places) ws)
  rows_counted [] all = tt
  rows_counted (w ∷ ws) all = (all.0.counted, rows_counted ws all.1)

  -- where places gave their faults away, the rest stays
  pub gave_lanes : (bs cs : List (SinkSeatView S)) (fs : List ℕ) → Each3 GivesFaults bs cs fs → lanes_of cs ≡ lanes_of bs
  gave_lanes [] [] [] gave = refl
  gave_lanes [] [] (f ∷ fs) gave = absurd gave
  gave_lanes [] (c ∷ cs) fs gave = absurd gave
  gave_lanes (b ∷ bs) [] fs gave = absurd gave
  gave_lanes (b ∷ bs) (c ∷ cs) [] gave = absurd gave
  gave_lanes (b ∷ bs) (c ∷ cs) (f ∷ fs) gave = λ i. gave.0.lane i ∷ gave_lanes bs cs fs gave.1 i

  pub gave_alone : (bs cs : List (SinkSeatView S)) (fs : List ℕ) → Each3 GivesFaults bs cs fs → AreAlone bs → AreAlone cs
  gave_alone [] [] [] gave all = tt
  gave_alone [] [] (f ∷ fs) gave all = absurd gave
  gave_alone [] (c ∷ cs) fs gave all = absurd gave
  gave_alone (b ∷ bs) [] fs gave all = absurd gave
  gave_alone (b ∷ bs) (c ∷ cs) [] gave all = absurd gave
  gave_alone (b ∷ bs) (c ∷ cs) (f ∷ fs) gave all = (ap (λ s. s.known.parts) gave.0.seat ∙ all.0, gave_alone bs cs fs gave.1 all.1)

  pub gave_many : (bs cs : List (SinkSeatView S)) (fs : List ℕ) → Each3 GivesFaults bs cs fs → (length cs ≡ length bs) × (length fs ≡ length bs)
  gave_many [] [] [] gave = (refl, refl)
  gave_many [] [] (f ∷ fs) gave = absurd gave
  gave_many [] (c ∷ cs) fs gave = absurd gave
  gave_many (b ∷ bs) [] fs gave = absurd gave
  gave_many (b ∷ bs) (c ∷ cs) [] gave = absurd gave
  gave_many (b ∷ bs) (c ∷ cs) (f ∷ fs) gave =
      let rest = gave_many bs cs fs gave.1 in ((λ i. suc (rest.0 i)), (λ i. suc (rest.1 i)))

  abbrev pub limits_of : List (SinkSeatView S) → List ℕ
  limits_of bs = map (λ (b : SinkSeatView S). b.limit) bs

  pub gave_limits : (bs cs : List (SinkSeatView S)) (fs : List ℕ) → Each3 GivesFaults bs cs fs → limits_of cs ≡ limits_of bs
  gave_limits [] [] [] gave = refl
  gave_limits [] [] (f ∷ fs) gave = absurd gave
  gave_limits [] (c ∷ cs) fs gave = absurd gave
  gave_limits (b ∷ bs) [] fs gave = absurd gave
  gave_limits (b ∷ bs) (c ∷ cs) [] gave = absurd gave
  gave_limits (b ∷ bs) (c ∷ cs) (f ∷ fs) gave = λ i. gave.0.limit i ∷ gave_limits bs cs fs gave.1 i

  -- and so do places that took others back
  pub took_limits : (bs cs ds : List (SinkSeatView S)) → Each3 TakesBack bs cs ds → limits_of cs ≡ limits_of bs
  took_limits [] [] [] took = refl
  took_limits [] [] (d ∷ ds) took = absurd took
  took_limits [] (c ∷ cs) ds took = absurd took
  took_limits (b ∷ bs) [] ds took = absurd took
  took_limits (b ∷ bs) (c ∷ cs) [] took = absurd took
  took_limits (b ∷ bs) (c ∷ cs) (d ∷ ds) took = λ i. took.0.limit i ∷ took_limits bs cs ds took.1 i

  -- places with the limits of these have this one
  pub limited : (limit : ℕ) (bs cs : List (SinkSeatView S)) → limits_of cs ≡ limits_of bs
      → AllByRecursion (λ (b : SinkSeatView S). b.limit ≡ limit) bs → AreLimited limit (places_of cs)
  limited limit [] [] same all = tt
  limited limit [] (c ∷ cs) same all = absurd (cc same)
  limited limit (b ∷ bs) [] same all = absurd (cc same)
  limited limit (b ∷ bs) (c ∷ cs) same all =
      let one : c.limit ≡ b.limit = cc same in
      let rest : limits_of cs ≡ limits_of bs = cc same in
      (one ∙ all.0, limited limit bs cs rest all.1)

  module _ (tells : Bool) (files : S → Files) (failures : S → ℕ) where
    -- a place took these back, gave its faults away, made turns, and was ended
    one_ended : (s : ℕ) (dues : List Due) {a b c d : SinkSeatView S} {column : List (SinkSeatView S)} {f g more : ℕ} {sink : Sink S}
        → IsUnused a → HasPlacesBack a b column → AllByRecursion IsCounted column → GivesFaults b c f → HasMade c d (dues_on s dues)
        → place_of d ≡ place_of c → EndsPlace tells files failures d sink more → g ≡ min (f + more) (2 ^ 64 - 1)
        → IsEnded tells files failures a.lane column (dues_on s dues) sink g
    one_ended s dues {a} {b} {c} {d} {column} {f} {g} {more} {sink} unused back counted gave made same ends sum =
        let e = ends.after in
        let m : SinkSeatView S → One = λ p. seat_member p in
        let flush : HasMade d e [] = made_own tells files failures d e ends.flushed in
        let both = (have_then s (c ∷ []) (d ∷ []) (e ∷ []) dues [] (made, tt) (flush, tt)).0 in
        let all : HasMade c e (dues_on s dues) = subst (λ (l : List Due). HasMade c e (dues_on s l)) (append-nil dues) both in
        let none : c.seat.known.own ≡ [] = ap (λ z. z.known.own) gave.seat ∙ back.seats.own ∙ unused.own in
        let own : e.seat.known.own ≡ all.entries = all.own ∙ ap (λ (l : List Turn). l ++ all.entries) none in
        let fresh : IsCounted c = subst (λ (l : List Turn). c.faults ≡ min (faults_in l) (2 ^ 64 - 1)) (sym none) gave.left in
        let mine : e.faults ≡ min (faults_in e.seat.known.own) (2 ^ 64 - 1) = all.counted fresh in
        let theirs = sum_capped (λ (p : SinkSeatView S). p.faults) (λ (p : SinkSeatView S). faults_in p.seat.known.own) column counted in
        let at : d.lane ≡ a.lane = ap (λ p. p.lane) same ∙ gave.lane ∙ back.lane in
        let told = back.faults in
        let given = gave.given in
        let last_are = ends.faults_are in
        record {
          end = e.seat.known;
          closes = subst (λ (l : LaneId (Sink S)). Closes (Turns tells files failures) l.first e.seat.known sink) at ends.closes;
          own = subst (λ (l : List Turn). HasDone l (dues_on s dues)) (sym own) all.done;
          members = ends.flushed.turn.made.joined ∙ ap (λ p. p.joined) same ∙ ap (λ z. z.known.joined) gave.seat ∙ back.seats.joined
              ∙ ap (λ (l : List One). l ++ map m column) unused.joined;
          before = ends.flushed.turn.before;
          flush = record { seat = d.seat.known.seat; deed = ends.flushed.deed };
          flushed = (ends.flushed.turn.ends, sym ends.flushed.turn.made.seat, (ends.flushed.tag_is, ends.flushed.item_is));
          faults_are = omega (arith, sum, given, told, theirs, last_are, mine);
        }

    -- What became of the places: those of the workers came back, faults were given away, and turns were made.
    pub record CameToEnd (s : ℕ) (os bs cs ds : List (SinkSeatView S)) (rows : List (List (SinkSeatView S))) (fs : List ℕ) (dues : List Due)
        : Type 0 where
      pub unused : AllByRecursion IsUnused os
      pub back : HaveBack os bs rows
      pub counted : AllByRecursion (λ (row : List (SinkSeatView S)). AllByRecursion IsCounted row) rows
      pub gave : Each3 GivesFaults bs cs fs
      pub made : HaveMade s cs ds dues
      pub same : places_of ds ≡ places_of cs

    pub all_ended : (s : ℕ) (os bs cs ds : List (SinkSeatView S)) (rows : List (List (SinkSeatView S))) (fs : List ℕ) (dues : List Due)
        (sinks : List (Sink S)) (gs : List ℕ) → CameToEnd s os bs cs ds rows fs dues → EndAll tells files failures ds fs sinks gs
        → AreEnded tells files failures s (lanes_of os) rows dues sinks gs
    all_ended s [] [] [] [] rows [] dues [] [] all end = tt
    all_ended s [] (b ∷ bs) cs ds rows fs dues sinks gs all end = absurd all.back
    all_ended s (a ∷ os) [] cs ds rows fs dues sinks gs all end = absurd all.back
    all_ended s [] [] (c ∷ cs) ds rows fs dues sinks gs all end = absurd all.gave
    all_ended s [] [] [] ds rows (f ∷ fs) dues sinks gs all end = absurd all.gave
    all_ended s [] [] [] (d ∷ ds) rows [] dues sinks gs all end = absurd all.made
    all_ended s [] [] [] [] rows [] dues (k ∷ ks) gs all end = absurd end
    all_ended s [] [] [] [] rows [] dues [] (g ∷ gs) all end = absurd end
    all_ended s (a ∷ os) (b ∷ bs) [] ds rows fs dues sinks gs all end = absurd all.gave
    all_ended s (a ∷ os) (b ∷ bs) (c ∷ cs) ds rows [] dues sinks gs all end = absurd all.gave
    all_ended s (a ∷ os) (b ∷ bs) (c ∷ cs) [] rows (f ∷ fs) dues sinks gs all end = absurd all.made
    all_ended s (a ∷ os) (b ∷ bs) (c ∷ cs) (d ∷ ds) rows (f ∷ fs) dues [] gs all end = absurd end
    all_ended s (a ∷ os) (b ∷ bs) (c ∷ cs) (d ∷ ds) rows (f ∷ fs) dues (k ∷ ks) [] all end = absurd end
    all_ended s (a ∷ os) (b ∷ bs) (c ∷ cs) (d ∷ ds) rows (f ∷ fs) dues (k ∷ ks) (g ∷ gs) all end =
        let one : place_of d ≡ place_of c = let e = all.same in cc e in
        let rest : places_of ds ≡ places_of cs = let e = all.same in cc e in (
          one_ended s dues all.unused.0 all.back.0 (heads_all IsCounted rows all.counted) all.gave.0 all.made.0 one end.0.1 end.0.2,
          all_ended (s + 1) os bs cs ds (tails rows) fs dues ks gs (record {
            unused = all.unused.1;
            back = all.back.1;
            counted = tails_all IsCounted rows all.counted;
            gave = all.gave.1;
            made = all.made.1;
            same = rest;
          })
              end.1,
        )
