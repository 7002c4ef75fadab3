-- The turns on each sink of a hosted pool are those of its workers, and its own, merged.
use Rattle.std.proofs.Common.{◌≡◌, ℕ, ◌+◌, ◌-◌, ◌^◌, Bool, List, [], ◌∷◌, ◌++◌, map, min, sym, ap, subst, ◌∙◌, arith}
use Rattle.std.specs.List.{AllByRecursion, sum_by}
use Rattle.std.proofs.lemmas.List.Sums.{sum_by-cons}
use Rattle.alog_core.specs.Accounts.{takes}
use Rattle.alog_hosted.specs.Ends.{AreEnded, HasBeen, IsEnded, all_owed}
use Rattle.alog_hosted.specs.Lent.{HostedView}
use Rattle.alog_hosted.specs.Owed.{OwesLast}
use Rattle.alog_hosted.specs.Workers.{WorkerView}
use Rattle.alog_hosted.specs.Written.{HasMadeOf, HostedPoolsWriteAll}
use Rattle.alog_hosted.proofs.Posted.{posted, row}
use Rattle.alog_lane.specs.Calls.{LaneId}
use Rattle.alog_lane.specs.Seats.{AreExact, members_of}
use Rattle.alog_pool.specs.Back.{seat_member}
use Rattle.alog_pool.specs.Deeds.{Due, all_dues, dues_on, faults_in}
use Rattle.alog_pool.specs.Places.{Each2}
use Rattle.alog_pool.specs.Rows.{heads, tails}
use Rattle.alog_pool.specs.SinkSeat.{SinkSeatView}
use Rattle.alog_pool.specs.Workers.{AreAllWritten, IsMerged}
use Rattle.alog_pool.specs.declared.shared.Shared.{Shared}
use Rattle.alog_pool.proofs.SharedHeld.{Turn, texts_held}
use Rattle.alog_pool.proofs.SharedServed.{takes_rise}
use Rattle.alog_pool.proofs.SharedWorkers.{DidAt, Given, IsRow, IsWrittenBy, One, done_rows, exact_rows, heads_made, merged, merged_due, merged_faults, own_rows, row_faults, rows_of, tails_made}
use Rattle.alog_sink.specs.Files.{Files}
use Rattle.alog_sink.specs.declared.sink.Sink.{Sink}

module _ {S : Type 0} (tells : Bool) (files : S → Files) (failures : S → ℕ) where
  ended_lane : (l : LaneId (Sink S)) (bs : List (SinkSeatView S)) (turns : List Given) (k : Sink S) (f : ℕ) (rows : List (List Given))
      → IsEnded tells files failures l bs turns k f → Each2 (DidAt tells files failures) bs rows
      → IsWrittenBy tells files failures l.first k f (turns ∷ rows)
  ended_lane l bs turns k f rows c made =
      let h : List Turn = c.end.seen in
      let ms : List One = map (λ (b : SinkSeatView S). seat_member b) bs in
      let mine : rows_of (members_of c.end) h ≡ c.end.own ∷ rows_of c.end.joined h =
      (λ i. sym c.closes.faithful.own i ∷ rows_of c.end.joined h) in
      let theirs : rows_of c.end.joined h ≡ own_rows tells files failures bs =
      ap (λ (us : List One). rows_of us h) c.members
      ∙ exact_rows tells files failures bs h (subst (λ (us : List One). AreExact us h) c.members c.closes.faithful.joined) in
      let all = merged (members_of c.end) h c.closes.faithful.distinct c.closes.whole in
      let merge : IsMerged h (c.end.own ∷ own_rows tells files failures bs) =
      subst (λ (rs : List (List Turn)). IsMerged h rs) (mine ∙ ap (λ (rs : List (List Turn)). c.end.own ∷ rs) theirs) all in
      let count : faults_in h ≡ faults_in c.end.own + sum_by (λ (b : SinkSeatView S). faults_in b.seat.known.own) bs =
      merged_faults h (c.end.own ∷ own_rows tells files failures bs) merge
      ∙ sum_by-cons faults_in c.end.own (own_rows tells files failures bs)
      ∙ ap (λ n. faults_in c.end.own + n) (row_faults tells files failures bs) in
      let told = c.faults_are in
      let counted : f ≡ min (faults_in h) (2 ^ 64 - 1) = omega (arith, count, told) in
      let due = merged_due h (c.end.own ∷ own_rows tells files failures bs) (turns ∷ rows) merge
      (c.own, done_rows tells files failures bs rows made) in (
        due.0,
        due.1,
        record {
          history = h;
          done = due.2;
          leads = c.closes.leads;
          faults_are = counted;
          holds = texts_held tells files failures l.first k h due.0 due.2 c.closes.leads counted;
        },
      )

  ended_all : (s : ℕ) (ls : List (LaneId (Sink S))) (rows : List (List (SinkSeatView S))) (dues : List Due) (ks : List (Sink S)) (fs : List ℕ)
      (made : List (List Due)) → AreEnded tells files failures s ls rows dues ks fs → Each2 (IsRow tells files failures s ls) rows made
      → AreAllWritten tells files failures s ls ks fs (dues ∷ made)
  ended_all s [] rows dues [] [] made ended each = tt
  ended_all s [] rows dues [] (f ∷ fs) made ended each = absurd ended
  ended_all s [] rows dues (k ∷ ks) fs made ended each = absurd ended
  ended_all s (l ∷ ls) rows dues [] fs made ended each = absurd ended
  ended_all s (l ∷ ls) rows dues (k ∷ ks) [] made ended each = absurd ended
  ended_all s (l ∷ ls) rows dues (k ∷ ks) (f ∷ fs) made ended each = (
    ended_lane l (heads rows) (dues_on s dues) k f (map (λ (ds : List Due). dues_on s ds) made) ended.0
        (heads_made tells files failures s l ls rows made each),
    ended_all (s + 1) ls (tails rows) dues ks fs made ended.1 (tails_made tells files failures s l ls rows made each),
  )

  module _ (hosted : HostedView S) where
    made_by : (ws : List (WorkerView S)) → AllByRecursion (HasBeen hosted) ws → List (List Due)
    made_by [] been = []
    made_by (w ∷ ws) been = been.0.was.made ∷ made_by ws been.1

    each_made : (ws : List (WorkerView S)) (been : AllByRecursion (HasBeen hosted) ws)
        → Each2 (HasMadeOf hosted.shared.loggers) ws (made_by ws been)
    unfolding made_by
    each_made [] been = tt
    each_made (w ∷ ws) been =
        let was = been.0.was in (
          (
            takes_rise w.most w.pass.known w.tickets w.handled was.work,
            subst (λ (s : Shared). all_dues s.loggers (takes w.pass.known.own) ≡ was.made ++ w.owed) been.0.of.shared was.all,
            subst (λ (s : Shared). OwesLast s.loggers (takes w.pass.known.own) w.owed) been.0.of.shared was.owes,
          ),
          each_made ws been.1,
        )

    rows_of_all : (ws : List (WorkerView S)) (been : AllByRecursion (HasBeen hosted) ws)
        → Each2 (IsRow tells files failures 0 hosted.lanes) (map (λ (w : WorkerView S). w.places) ws) (made_by ws been)
    unfolding made_by
    rows_of_all [] been = tt
    rows_of_all (w ∷ ws) been = ((been.0.of.lanes, been.0.was.turns), rows_of_all ws been.1)

  pub hosted_pools_write : HostedPoolsWriteAll tells files failures
  hosted_pools_write host producers workers r ends =
      let shared = host.hosted.shared in
      let lanes = host.hosted.lanes in
      record {
        ends = ends;
        posted = posted tells files failures host producers workers r ends;
        row = row tells files failures host producers workers r ends;
        made = made_by host.hosted workers ends.worked;
        each = each_made host.hosted workers ends.worked;
        written = ended_all 0 lanes (map (λ (w : WorkerView S). w.places) workers) (all_owed workers ++ all_dues shared.loggers ends.left)
            r.sinks.items r.faults.items (made_by host.hosted workers ends.worked) ends.sinks (rows_of_all host.hosted workers ends.worked);
      }
