-- What the one worker of a pool wrote of all that one producer put in.
use Rattle.std.proofs.Common.{◌≡◌, ◌≢◌, ◌<◌, ◌≤◌, inl, inr, sym, ℕ, zero, suc, ◌+◌, ◌==◌, Bool, true, Option, Some, List, [], ◌∷◌, Contains, count_by, length, refl, ap, subst, ◌∙◌, arith}
use Rattle.std.specs.Prelude.{◌↔◌, slice_get}
use Rattle.std.specs.List.{AllByRecursion, sum_by}
use Rattle.std.proofs.lemmas.List.Sums.{sum_by-cons}
use Rattle.alog_core.specs.Accounts.{claimed, claims, taken, takes, weigh}
use Rattle.alog_format.specs.Buffer.{Buffer}
use Rattle.alog_lane.specs.Calls.{LaneId}
use Rattle.alog_lane.specs.Seats.{Entry}
use Rattle.alog_lane.specs.Turns.{Turned, Leads}
use Rattle.alog_msg.specs.declared.item.Item.{Item}
use Rattle.alog_msg.specs.declared.item.Item.TheVariants.{Stop}
use Rattle.alog_msg.specs.declared.message.Message.{Message}
use Rattle.alog_pool.specs.Accounts.{of_work}
use Rattle.alog_pool.specs.Deeds.{Due, all_dues, dues_on}
use Rattle.alog_pool.proofs.SharedGaps.{none_told}
use Rattle.alog_pool.specs.Gaps.{with_gaps}
use Rattle.alog_pool.specs.OneWorker.{AreWritten, HoldsMore, IsWritten, OneWorkerWritesInOrder, WritesInOrder, texts_in}
use Rattle.alog_pool.specs.Pool.{PoolView, lanes_of}
use Rattle.alog_pool.specs.Posted.{tickets_of}
use Rattle.alog_pool.specs.Producer.{ProducerView}
use Rattle.alog_pool.specs.Report.{Ends}
use Rattle.alog_pool.specs.SinkSeat.{Answer}
use Rattle.alog_pool.specs.declared.report.Report.{Report}
use Rattle.alog_registry.specs.Listed.{spec_at}
use Rattle.alog_registry.specs.declared.logger.Spec.{Spec}
use Rattle.alog_sink.specs.Files.{Files}
use Rattle.alog_sink.specs.Sinks.{Turns}
use Rattle.alog_sink.specs.declared.sink.Sink.{Sink}
use Rattle.test_laws.specs.Stretches.{TellsLost}
use Rattle.test_laws.proofs.Bounds.{overrun_is}
use Rattle.test_laws.proofs.Claims.{Given, Leaves, all_at, all_of, alone_is, at_tickets, first_at, left_of, of_tickets, posted_are, put_there}
use Rattle.test_laws.proofs.Dues.{IsFor, count_texts, due_texts, no_stops}
use Rattle.test_laws.proofs.Gaps.{IsFirsts, IsRow, are_for, gaps_for, none_missing, row_of, tells_lost, texts_length}

module _ {S : Type 0} (tells : Bool) (files : S → Files) (failures : S → ℕ) where
  -- the sink of a number among those that were written: its lane, what it is now, and what led there
  pub record WrittenAt (n : ℕ) (ls : List (LaneId (Sink S))) (ks : List (Sink S)) (f : ℕ) (turns : List Given) : Type 0 where
    pub lane : LaneId (Sink S)
    pub sink : Sink S
    pub lane_is : slice_get ls n ≡ Some lane
    pub sink_is : slice_get ks n ≡ Some sink
    pub written : IsWritten tells files failures lane.first sink f turns

  written_at : (s n : ℕ) (ls : List (LaneId (Sink S))) (ks : List (Sink S)) (fs : List ℕ) (dues : List Due) {f : ℕ}
      → AreWritten tells files failures s ls ks fs dues → slice_get fs n ≡ Some f → WrittenAt n ls ks f (dues_on (n + s) dues)
  written_at s n [] [] [] dues all at = absurd (cc at)
  written_at s n [] [] (z ∷ fs) dues all at = absurd all
  written_at s n [] (y ∷ ks) fs dues all at = absurd all
  written_at s n (x ∷ ls) [] fs dues all at = absurd all
  written_at s n (x ∷ ls) (y ∷ ks) [] dues all at = absurd all
  written_at s zero (x ∷ ls) (y ∷ ks) (z ∷ fs) dues {f} all at =
      let same : z ≡ f = cc in
      let here : s ≡ 0 + s = omega arith in
      record {
        lane = x;
        sink = y;
        lane_is = refl;
        sink_is = refl;
        written = subst (λ (v : ℕ × ℕ). IsWritten tells files failures x.first y v.0 (dues_on v.1 dues)) (λ i. (same i, here i)) all.0;
      }
  written_at s (suc n) (x ∷ ls) (y ∷ ks) (z ∷ fs) dues {f} all at =
      let next : n + (s + 1) ≡ suc n + s = omega arith in
      let it = written_at (s + 1) n ls ks fs dues all.1 at in
      record {
        lane = it.lane;
        sink = it.sink;
        lane_is = it.lane_is;
        sink_is = it.sink_is;
        written = subst (λ (j : ℕ). IsWritten tells files failures it.lane.first it.sink f (dues_on j dues)) next it.written;
      }

  -- A pool of one worker was ended with one producer, which put in texts of one logger and nothing else. The sink of this number stands once
  -- among the logger's, its store tells its files, and no turn there met a fault.
  pub record EndsAlone (logger n : ℕ) (pool : PoolView S) (p : ProducerView) (r : Report S) : Type 0 where
    pub ends : Ends tells files failures pool (p ∷ []) r
    pub single : length pool.crew ≡ 1
    pub spec : Spec
    pub found : spec_at pool.shared.loggers logger ≡ Some spec
    pub once : count_by (λ (s : ℕ). s == n) spec.sinks.items ≡ 1
    pub firsts : AllByRecursion (λ (i : Given). IsFirsts logger i.1) (claims p.pass.known.own)
    pub told : tells ≡ true
    pub faultless : slice_get r.faults.items n ≡ Some 0

  -- Of these sinks that of a number holds these messages more than it did when its lane was made, by turns that led there.
  pub record Held (n : ℕ) (lanes : List (LaneId (Sink S))) (sinks : List (Sink S)) (ms : List Message) : Type 0 where
    pub lane : LaneId (Sink S)
    pub sink : Sink S
    pub lane_is : slice_get lanes n ≡ Some lane
    pub sink_is : slice_get sinks n ≡ Some sink
    pub history : List (Entry (Turned Item Buffer Answer))
    pub leads : Leads (Turns tells files failures) lane.first history sink
    pub holds : HoldsMore files lane.first sink ms

  module _ (law : OneWorkerWritesInOrder tells files failures) {logger n : ℕ} {pool : PoolView S} {p : ProducerView} {r : Report S}
      (e : EndsAlone logger n pool p r) where
    abbrev pub put : List Given
    put = claims p.pass.known.own

    abbrev wrote : WritesInOrder tells files failures pool (p ∷ []) r
    wrote = law pool (p ∷ []) r e.ends e.single

    put_in : (i : Given) → Contains wrote.items i → Contains put i
    put_in = put_there p wrote.items wrote.are

    all_own : AllByRecursion (λ (i : Given). IsFor logger i.1) put
    all_own = are_for logger put e.firsts

    own : AllByRecursion (λ (i : Given). IsFor logger i.1) wrote.items
    own = all_of (λ (i : Given). IsFor logger i.1) wrote.items put all_own put_in

    -- the texts that the worker handled, and those that it wrote: these, and what it told of gaps
    abbrev handled : List Message
    handled = texts_in wrote.items

    abbrev pub written : List Message
    written = texts_in (with_gaps pool.shared.gaps wrote.items)

    pub texts_held : Held n (lanes_of pool.sink_seats) r.sinks.items written
    texts_held =
        let loggers = pool.shared.loggers in
        let lanes = lanes_of pool.sink_seats in
        let dues : List Due = all_dues loggers (with_gaps pool.shared.gaps wrote.items) in
        let same : n + 0 ≡ n = omega arith in
        let it = subst (λ (j : ℕ). WrittenAt n lanes r.sinks.items 0 (dues_on j dues)) same
        (written_at 0 n lanes r.sinks.items r.faults.items dues wrote.written e.faultless) in
        let due = due_texts loggers logger n e.spec e.found e.once (with_gaps pool.shared.gaps wrote.items)
        (gaps_for logger pool.shared.gaps wrote.items own) in
        record {
          lane = it.lane;
          sink = it.sink;
          lane_is = it.lane_is;
          sink_is = it.sink_is;
          history = it.written.history;
          leads = it.written.leads;
          holds = subst (λ (ms : List Message). HoldsMore files it.lane.first it.sink ms) due (it.written.holds e.told refl);
        }

    -- what the producer put in has tickets that follow each other
    tickets_are : (t : ℕ) → Contains (tickets_of put) t ↔ ((pool.shared.ring.ring.first ≤ t) × (t < wrote.row.end))
    tickets_are t =
        let row = wrote.row.tickets t in (
          (λ c.
              let i = of_tickets put t c in
              row.0 (
                i.0.1,
                all_at (λ (j : Given). j.1 ≢ Stop) put i.0 (no_stops logger put all_own) i.1,
                (p, first_at p [], subst (λ u. Contains put (u, i.0.1)) i.2 i.1),
              )),
          (λ within.
              let is = row.1 within in
              let same : p ≡ is.2.0 = alone_is is.2.0 p is.2.1 in
              at_tickets put (t, is.0) (subst (λ (q : ProducerView). Contains (claims q.pass.known.own) (t, is.0)) (sym same) is.2.2)),
        )

    row : IsRow pool.shared.ring.ring.first put
    row = row_of pool.shared.ring.ring.first wrote.row.end put wrote.are.in_order.0 wrote.row.few tickets_are

    -- the items that the worker handled are those that the producer put in, in the order in which it did, but for those that it overran
    left : Leaves put wrote.items
    left = left_of wrote.items put wrote.rise wrote.are.in_order.0 put_in

    lost : length wrote.items + r.totals.overrun ≡ length put
    lost =
        let all : length (texts_in put) ≡ weigh of_work put = count_texts logger put all_own in
        let some : length handled ≡ weigh of_work wrote.items = count_texts logger wrote.items own in
        let many = texts_length logger put e.firsts in
        let few = texts_length logger wrote.items (all_of (λ (i : Given). IsFirsts logger i.1) wrote.items put e.firsts put_in) in
        let claimed_one = sum_by-cons (λ (q : ProducerView). claimed of_work q.pass.known.own) p [] in
        let taken_one = sum_by-cons (λ (q : ProducerView). taken of_work q.pass.known.own) p [] in
        let out : sum_by (λ (q : ProducerView). claimed of_work q.pass.known.own) (p ∷ [])
        ≡ sum_by (λ (q : ProducerView). taken of_work q.pass.known.own) (p ∷ []) + weigh of_work wrote.items =
        wrote.posted of_work (λ t. refl) in
        let over : r.totals.overrun ≡ weigh of_work (takes p.pass.known.own) = overrun_is tells files failures e.ends in
        omega (arith, all, some, many, few, claimed_one, taken_one, out, over)

    -- where gaps are told, the worker wrote in place of what was overrun how many they are
    pub texts_kept : pool.shared.gaps ≡ Some pool.shared.ring.ring.first → TellsLost logger (texts_in put) written r.totals.overrun
    texts_kept gaps =
        subst (λ (next : Option ℕ). TellsLost logger (texts_in put) (texts_in (with_gaps next wrote.items)) r.totals.overrun) (sym gaps)
        (tells_lost logger pool.shared.ring.ring.first put wrote.items r.totals.overrun left row e.firsts lost)

    -- it wrote all of them, and nothing else, where the producer took nothing out
    pub texts_are : takes p.pass.known.own ≡ [] → written ≡ texts_in put
    texts_are took =
        let same : wrote.items ≡ put = posted_are p wrote.items wrote.rise wrote.are took (no_stops logger put all_own) in
        let none : with_gaps pool.shared.gaps put ≡ put =
        elim e.ends.counts [
          | inl never ↦ ap (λ (next : Option ℕ). with_gaps next put) never ∙ none_told put
          | inr from ↦ ap (λ (next : Option ℕ). with_gaps next put) from
              ∙ none_missing logger pool.shared.ring.ring.first put row e.firsts
        ] in
        ap (λ (is : List Given). texts_in (with_gaps pool.shared.gaps is)) same ∙ ap (λ (is : List Given). texts_in is) none
