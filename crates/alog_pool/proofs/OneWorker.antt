-- A pool of one worker: all turns on a sink are its own.
use Rattle.std.proofs.Common.{◌≡◌, ℕ, ◌+◌, Bool, List, [], ◌∷◌, ◌++◌, map, length, subst, ◌∙◌, append-nil, arith}
use Rattle.std.specs.List.{AllByRecursion, sum_by}
use Rattle.std.proofs.lemmas.List.Sums.{sum_by-cons}
use Rattle.alog_core.specs.Accounts.{claims, claimed, taken, takes, weigh}
use Rattle.alog_lane.specs.Calls.{LaneId}
use Rattle.alog_msg.specs.declared.item.Item.{Item}
use Rattle.alog_msg.specs.declared.item.Item.TheVariants.{Stop}
use Rattle.alog_pool.specs.Back.{pass_member, worker_member}
use Rattle.alog_pool.specs.Deeds.{Due, all_dues, dues_on}
use Rattle.alog_pool.specs.Gaps.{with_gaps}
use Rattle.alog_pool.specs.OneWorker.{AreWritten, IsWritten, OneWorkerWritesInOrder, WritesInOrder}
use Rattle.alog_pool.specs.Pool.{PoolView, lanes_of}
use Rattle.alog_pool.specs.Ending.{IsEnd}
use Rattle.alog_pool.specs.Posted.{AreInARow, ArePosted}
use Rattle.alog_pool.specs.Producer.{ProducerView}
use Rattle.alog_pool.specs.Report.{AllCameOut, AreClosed, HasServed}
use Rattle.alog_pool.specs.Stops.{AreStops}
use Rattle.alog_pool.specs.Workers.{AreAllWritten}
use Rattle.alog_pool.specs.declared.worker.Worker.{Worker}
use Rattle.alog_pool.specs.declared.report.Report.{Report}
use Rattle.alog_pool.proofs.InARow.{in_a_row}
use Rattle.alog_pool.proofs.Posted.{posted, work_by}
use Rattle.alog_pool.proofs.SharedPosted.{work_weighs}
use Rattle.alog_pool.proofs.SharedWorkers.{closed_all, merged_alone, put_nothing, rows_made, works_rise}
use Rattle.alog_registry.specs.BlockPort.{block_note}
use Rattle.alog_ring.specs.Known.{Known}
use Rattle.alog_sink.specs.Files.{Files}
use Rattle.alog_sink.specs.declared.sink.Sink.{Sink}

module _ {S : Type 0} (tells : Bool) (files : S → Files) (failures : S → ℕ) where
  -- the turns of one worker, merged, are that worker's
  written_alone : (s : ℕ) (ls : List (LaneId (Sink S))) (ks : List (Sink S)) (fs : List ℕ) (dues : List Due)
      → AreAllWritten tells files failures s ls ks fs (dues ∷ []) → AreWritten tells files failures s ls ks fs dues
  written_alone s [] [] [] dues all = tt
  written_alone s [] [] (f ∷ fs) dues all = absurd all
  written_alone s [] (k ∷ ks) fs dues all = absurd all
  written_alone s (l ∷ ls) [] fs dues all = absurd all
  written_alone s (l ∷ ls) (k ∷ ks) [] dues all = absurd all
  written_alone s (l ∷ ls) (k ∷ ks) (f ∷ fs) dues all = (
    subst (λ (turns : List (ℕ × Item)). IsWritten tells files failures l.first k f turns)
        (merged_alone all.0.0 (dues_on s dues) all.0.1) all.0.2,
    written_alone (s + 1) ls ks fs dues all.1,
  )

  -- what the one worker of a crew took
  posted_weighs : (producers : List ProducerView) (h : Worker S) → AllCameOut producers (h ∷ [])
      → (w : ℕ → Item → ℕ) → ((t : ℕ) → w t Stop ≡ 0)
      → sum_by (λ (p : ProducerView). claimed w p.pass.known.own) producers
      ≡ sum_by (λ (p : ProducerView). taken w p.pass.known.own) producers + weigh w (work_by h)
  posted_weighs producers h out w nothing =
      let t : Worker S → ℕ = λ z. taken w z.pass.known.own in
      let all = out w nothing in
      let single : sum_by t (h ∷ []) ≡ t h + sum_by t [] = sum_by-cons t h [] in
      let works = work_weighs w (takes h.pass.known.own) nothing in omega (arith, all, single, works)

  by_one : {pool : PoolView S} {producers : List ProducerView} {r : Report S} (crew : List (Worker S)) {end : Known Item block_note}
      → length crew ≡ 1 → AllByRecursion (HasServed pool.shared (lanes_of pool.sink_seats) pool.most) crew → IsEnd end
      → end.first ≡ pool.shared.ring.ring.first
      → end.joined ≡ map pass_member producers ++ map (λ (h : Worker S). worker_member h) crew → AreStops (claims end.own)
      → AllCameOut producers crew
      → AreClosed tells files failures (lanes_of pool.sink_seats) (map (λ (h : Worker S). h.sink_seats.items) crew) r.sinks.items r.faults.items
      → WritesInOrder tells files failures pool producers r
  by_one [] single served moment first members stops out closed = absurd (omega (arith, single))
  by_one (h ∷ k ∷ hs) single served moment first members stops out closed = absurd (omega (arith, single))
  by_one {pool} {producers} {r} (h ∷ []) {end} single served moment first members stops out closed =
      let shared = pool.shared in
      let lanes = lanes_of pool.sink_seats in
      let dues : List Due = all_dues shared.loggers (with_gaps shared.gaps (work_by h)) in
      let rises = works_rise tells files failures shared lanes pool.most (h ∷ []) served in
      let idle = put_nothing tells files failures shared lanes pool.most (h ∷ []) served in
      record {
        items = work_by h;
        rise = rises.0;
        are = subst (λ (items : List (ℕ × Item)). ArePosted producers items) (append-nil (work_by h))
            (posted producers (h ∷ []) end moment.whole members stops idle out);
        row = subst (λ (f : ℕ). AreInARow f producers) first (in_a_row producers (h ∷ []) end moment members stops idle);
        posted = posted_weighs producers h out;
        written = written_alone 0 lanes r.sinks.items r.faults.items dues
            (closed_all tells files failures 0 lanes (h.sink_seats.items ∷ []) r.sinks.items r.faults.items (dues ∷ []) closed
            (rows_made tells files failures shared lanes pool.most (h ∷ []) served));
      }

  pub one_worker_writes_in_order : OneWorkerWritesInOrder tells files failures
  one_worker_writes_in_order pool producers r ends single =
      by_one {pool = pool} {producers = producers} {r = r} ends.crew (ends.count ∙ single) ends.served ends.moment ends.ring.1
      ends.members ends.stops.0 ends.out ends.sinks
