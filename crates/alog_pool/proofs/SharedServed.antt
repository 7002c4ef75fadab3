-- What a worker served, told of its whole time at work.
use Rattle.std.proofs.Common.{◌≡◌, ◌<◌, ◌≤◌, inl, ℕ, zero, suc, ◌+◌, ◌-◌, ◌%◌, ◌^◌, min, List, [], ◌∷◌, ◌++◌, map, take, length, refl, sym, ap, subst, ◌∙◌, append-nil, arith}
use Rattle.std.proofs.lemmas.List.{length-map}
use Rattle.std.specs.Prelude.{slice_index_or}
use Rattle.std.specs.List.{AllByRecursion, AllPairs}
use Rattle.std.specs.Arc.{arc_value}
use Rattle.alog_core.specs.Accounts.{takes, grabbed, handed_out}
use Rattle.alog_core.specs.History.{Entry, own_of}
use Rattle.alog_core.proofs.SharedGrabs.{an_actors_tickets_rise}
use Rattle.alog_format.specs.Buffer.{Buffer}
use Rattle.alog_lane.specs.Calls.{LaneId}
use Rattle.alog_lane.specs.Seats as lane
use Rattle.alog_lane.specs.Turns.{Turned}
use Rattle.alog_msg.specs.declared.item.Item.{Item}
use Rattle.alog_msg.specs.declared.item.Item.TheVariants.{Text, Flush, Stop}
use Rattle.alog_pool.specs.Accounts.{work_tickets}
use Rattle.alog_pool.specs.Back.{worker_member}
use Rattle.alog_pool.specs.SinkSeat.{Answer, SinkSeatView}
use Rattle.alog_pool.specs.Deeds.{Due, all_dues, dues_on, faults_in, HasDone, HaveMade, IsCounted}
use Rattle.alog_pool.specs.Ended.{PutNothing}
use Rattle.alog_pool.specs.Ending.{HasEndedAmong}
use Rattle.alog_pool.specs.Places.{Each2}
use Rattle.alog_pool.specs.Gaps.{next_of, with_gaps}
use Rattle.alog_pool.specs.Pool.{Begins, IsNew, lanes_of}
use Rattle.alog_pool.specs.Report.{HasServed, IsRising, MadeAll, handled_by}
use Rattle.alog_pool.specs.Working.{HasWorked, IsWorkOf, numbers_of}
use Rattle.alog_pool.specs.declared.worker.Worker.{Worker}
use Rattle.alog_pool.specs.declared.shared.Shared.{Shared}
use Rattle.alog_pool.proofs.SharedRows.{place_lanes}
use Rattle.alog_registry.specs.BlockPort.{block_note}
use Rattle.alog_ring.specs.Known.{Known}
use Rattle.alog_sink.specs.declared.sink.Sink.{Sink}

-- tickets that rise
all_above : (t : ℕ) (ts : List ℕ) → ((j d : ℕ) → j < length ts → t < slice_index_or ts j d) → AllByRecursion (λ (u : ℕ). t < u) ts
all_above t [] each = tt
all_above t (u ∷ ts) each = (each 0 0 (omega arith), all_above t ts (λ j d low. each (suc j) d (omega (arith, low))))

rising : (ts : List ℕ) → AllPairs (λ t u. t < u) ts → IsRising ts
rising [] pairs = tt
rising (t ∷ ts) pairs = (
  all_above t ts (λ j d low. pairs 0 (suc j) d (omega arith) (omega (arith, low))),
  rising ts (λ i j d less low. pairs (suc i) (suc j) d (omega (arith, less)) (omega (arith, low))),
)

above_works : (t : ℕ) (ps : List (ℕ × Item)) → AllByRecursion (λ (u : ℕ). t < u) (map (λ (p : ℕ × Item). p.0) ps)
    → AllByRecursion (λ (u : ℕ). t < u) (work_tickets ps)
above_works t [] all = tt
above_works t ((u, Text m) ∷ ps) all = (all.0, above_works t ps all.1)
above_works t ((u, Flush n) ∷ ps) all = (all.0, above_works t ps all.1)
above_works t ((u, Stop) ∷ ps) all = above_works t ps all.1

pub rising_works : (ps : List (ℕ × Item)) → IsRising (map (λ (p : ℕ × Item). p.0) ps) → IsRising (work_tickets ps)
rising_works [] all = tt
rising_works ((u, Text m) ∷ ps) all = (above_works u ps all.0, rising_works ps all.1)
rising_works ((u, Flush n) ∷ ps) all = (above_works u ps all.0, rising_works ps all.1)
rising_works ((u, Stop) ∷ ps) all = rising_works ps all.1

above_taken : (t n : ℕ) (ts : List ℕ) → AllByRecursion (λ (u : ℕ). t < u) ts → AllByRecursion (λ (u : ℕ). t < u) (take n ts)
above_taken t zero ts all = tt
above_taken t (suc n) [] all = tt
above_taken t (suc n) (u ∷ ts) all = (all.0, above_taken t n ts all.1)

rising_taken : (n : ℕ) (ts : List ℕ) → IsRising ts → IsRising (take n ts)
rising_taken zero ts all = tt
rising_taken (suc n) [] all = tt
rising_taken (suc n) (t ∷ ts) all = (above_taken t n ts all.0, rising_taken n ts all.1)

-- the tickets that a worker took rise, and so do those that it recorded
pub takes_rise : (most : ℕ) (k : Known Item block_note) (ts : List ℕ) (hs : ℕ) → IsWorkOf most k ts hs → IsRising (handed_out k.own)
takes_rise most k ts hs w =
    let H : Type 0 = List (Entry Item block_note) in
    let own : k.own ≡ own_of k.actor k.seen = w.faithful.own in
    let in_order : grabbed (own_of k.actor k.seen) ≡ handed_out (own_of k.actor k.seen) ++ [] =
    subst (λ (h : H). grabbed h ≡ handed_out h ++ []) own (w.grabs ∙ sym (append-nil (handed_out k.own))) in
    let rise = (an_actors_tickets_rise Item block_note k.places k.first k.seen k.actor w.faithful.legal).1 [] in_order in
    rising (handed_out k.own) (subst (λ (h : H). AllPairs (λ t u. t < u) (handed_out h)) (sym own) rise)

tickets_rise : (most : ℕ) (k : Known Item block_note) (ts : List ℕ) (hs : ℕ) → IsWorkOf most k ts hs → IsRising ts
tickets_rise most k ts hs w =
    subst (λ (l : List ℕ). IsRising l) (sym w.tickets_are)
    (rising_taken most (work_tickets (takes k.own)) (rising_works (takes k.own) (takes_rise most k ts hs w)))

abbrev Turn : Type 0
Turn = lane.Entry (Turned Item Buffer Answer)

module _ {S : Type 0} where
  -- a seat that had made nothing made all that it has
  pub made_all : (s : ℕ) (bs cs : List (SinkSeatView S)) (dues : List Due) → HaveMade s bs cs dues → AllByRecursion IsNew bs → MadeAll s cs dues
  made_all s [] [] dues made new = tt
  made_all s [] (c ∷ cs) dues made new = absurd made
  made_all s (b ∷ bs) [] dues made new = absurd made
  made_all s (b ∷ bs) (c ∷ cs) dues made new =
      let own : c.seat.known.own ≡ made.0.entries =
      made.0.own ∙ ap (λ (l : List Turn). l ++ made.0.entries) new.0.1.own in
      (subst (λ (l : List Turn). HasDone l (dues_on s dues)) (sym own) made.0.done, made_all (s + 1) bs cs dues made.1 new.1)

  pub counted_new : (b : SinkSeatView S) → IsNew b → IsCounted b
  counted_new b new = subst (λ (l : List Turn). b.faults ≡ min (faults_in l) (2 ^ 64 - 1)) (sym new.1.own) new.1.faults

  pub made_counted : (s : ℕ) (bs cs : List (SinkSeatView S)) (dues : List Due) → HaveMade s bs cs dues → AllByRecursion IsNew bs
      → AllByRecursion IsCounted cs
  made_counted s [] [] dues made new = tt
  made_counted s [] (c ∷ cs) dues made new = absurd made
  made_counted s (b ∷ bs) [] dues made new = absurd made
  made_counted s (b ∷ bs) (c ∷ cs) dues made new =
      (made.0.counted (counted_new b new.0), made_counted (s + 1) bs cs dues made.1 new.1)

  module _ (shared : Shared) (lanes : List (LaneId (Sink S))) (most : ℕ) where
    served_one : (h k : Worker S) → Begins shared lanes most h → HasWorked h k → HasServed shared lanes most k
    served_one h k b w =
        let none : takes h.pass.known.own ≡ [] = ap (λ (l : List (Entry Item block_note)). takes l) b.fresh.own in
        let gots : takes k.pass.known.own ≡ w.turns.gots =
        w.turns.took ∙ ap (λ (l : List (ℕ × Item)). l ++ w.turns.gots) none in
        let dues : all_dues (arc_value h.shared).loggers (with_gaps (next_of h.gaps) w.turns.gots)
        ≡ all_dues shared.loggers (with_gaps shared.gaps (takes k.pass.known.own)) =
        (λ i. all_dues (b.shares i).loggers (with_gaps (b.gaps_are i) (sym gots i))) in
        let work = subst (λ n. IsWorkOf n k.pass.known k.tickets.items k.handled) b.most_is w.work in
        record {
          work = work;
          rising = takes_rise most k.pass.known k.tickets.items k.handled work;
          tickets_rise = tickets_rise most k.pass.known k.tickets.items k.handled work;
          ended = w.ended;
          lanes_are = place_lanes h.sink_seats.items k.sink_seats.items w.places ∙ b.lanes_are;
          turns = subst (λ (l : List Due). MadeAll 0 k.sink_seats.items l) dues
              (made_all 0 h.sink_seats.items k.sink_seats.items _ w.turns.turns b.seats);
          flushed = w.flushed;
        }

    pub all_served : (hs ks : List (Worker S)) → AllByRecursion (Begins shared lanes most) hs → Each2 HasWorked hs ks
        → AllByRecursion (HasServed shared lanes most) ks
    all_served [] [] began worked = tt
    all_served [] (k ∷ ks) began worked = absurd worked
    all_served (h ∷ hs) [] began worked = absurd worked
    all_served (h ∷ hs) (k ∷ ks) began worked = (served_one h k began.0 worked.0, all_served hs ks began.1 worked.1)

    -- their rows of places
    pub rows_counted : (hs ks : List (Worker S)) → AllByRecursion (Begins shared lanes most) hs → Each2 HasWorked hs ks
        → AllByRecursion (λ (row : List (SinkSeatView S)). AllByRecursion IsCounted row) (map (λ (k : Worker S). k.sink_seats.items) ks)
    rows_counted [] [] began worked = tt
    rows_counted [] (k ∷ ks) began worked = absurd worked
    rows_counted (h ∷ hs) [] began worked = absurd worked
    rows_counted (h ∷ hs) (k ∷ ks) began worked = (
      made_counted 0 h.sink_seats.items k.sink_seats.items _ worked.0.turns.turns began.0.seats,
      rows_counted hs ks began.1 worked.1,
    )

  -- each has as many places as the pool
  even : (cs bs : List (SinkSeatView S)) → lanes_of cs ≡ lanes_of bs → length cs ≡ length bs
  even cs bs same = sym (length-map cs (λ (b : SinkSeatView S). b.lane)) ∙ ap (λ (l : List (LaneId (Sink S))). length l) same
      ∙ length-map bs (λ (b : SinkSeatView S). b.lane)

  pub rows_even : (shared : Shared) (bs : List (SinkSeatView S)) (most : ℕ) (hs ks : List (Worker S))
      → AllByRecursion (Begins shared (lanes_of bs) most) hs → Each2 HasWorked hs ks
      → AllByRecursion (λ (row : List (SinkSeatView S)). length row ≡ length bs) (map (λ (k : Worker S). k.sink_seats.items) ks)
  rows_even shared bs most [] [] began worked = tt
  rows_even shared bs most [] (k ∷ ks) began worked = absurd worked
  rows_even shared bs most (h ∷ hs) [] began worked = absurd worked
  rows_even shared bs most (h ∷ hs) (k ∷ ks) began worked = (
    even k.sink_seats.items bs (place_lanes h.sink_seats.items k.sink_seats.items worked.0.places ∙ began.0.lanes_are),
    rows_even shared bs most hs ks began.1 worked.1,
  )

  -- their passes put nothing in, and one ended
  pub put_nothing : (hs ks : List (Worker S)) → Each2 HasWorked hs ks → AllByRecursion PutNothing (map (λ (k : Worker S). worker_member k) ks)
  put_nothing [] [] worked = tt
  put_nothing [] (k ∷ ks) worked = absurd worked
  put_nothing (h ∷ hs) [] worked = absurd worked
  put_nothing (h ∷ hs) (k ∷ ks) worked = (worked.0.work.puts, put_nothing hs ks worked.1)

  pub one_ended : (hs ks : List (Worker S)) → 1 ≤ length hs → Each2 HasWorked hs ks
      → HasEndedAmong (map (λ (k : Worker S). worker_member k) ks)
  one_ended [] ks some worked = absurd (omega (arith, some))
  one_ended (h ∷ hs) [] some worked = absurd worked
  one_ended (h ∷ hs) (k ∷ ks) some worked = inl worked.0.ended

  -- what they counted
  pub all_handled : (hs ks : List (Worker S)) → Each2 HasWorked hs ks
      → AllByRecursion (λ (k : Worker S). k.handled ≡ handled_by k % 2 ^ 64) ks
  all_handled [] [] worked = tt
  all_handled [] (k ∷ ks) worked = absurd worked
  all_handled (h ∷ hs) [] worked = absurd worked
  all_handled (h ∷ hs) (k ∷ ks) worked = (worked.0.work.handled_is, all_handled hs ks worked.1)

-- workers keep their numbers
pub same_numbers : {S : Type 0} (hs ks : List (Worker S)) → Each2 HasWorked hs ks → numbers_of ks ≡ numbers_of hs
same_numbers [] [] worked = refl
same_numbers [] (k ∷ ks) worked = absurd worked
same_numbers (h ∷ hs) [] worked = absurd worked
same_numbers (h ∷ hs) (k ∷ ks) worked =
    ap (λ n. n ∷ numbers_of ks) worked.0.number ∙ ap (λ l. h.number ∷ l) (same_numbers hs ks worked.1)
