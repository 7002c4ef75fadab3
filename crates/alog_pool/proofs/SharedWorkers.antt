-- A pool of any number of workers: the turns on a sink are those of all workers, merged.
use Rattle.std.proofs.Common.{◌≡◌, ◌⊎◌, ℕ, ◌+◌, ◌-◌, ◌^◌, Bool, cond, List, [], ◌∷◌, map, min, take, inl, inr, refl, sym, ap, subst, ◌∙◌, arith}
use Rattle.std.specs.List.{AllByRecursion, sum_by}
use Rattle.std.proofs.lemmas.List.{length-map}
use Rattle.std.proofs.lemmas.List.Sums.{sum_by-cons}
use Rattle.alog_core.specs.Accounts.{claims, takes}
use Rattle.alog_core.proofs.SharedCells.{on_test}
use Rattle.alog_format.specs.Buffer.{Buffer}
use Rattle.alog_lane.specs.Calls.{LaneId}
use Rattle.alog_lane.specs.Seats.{AreDistinct, AreExact, IsAmong, Member, own_of}
use Rattle.alog_lane.specs.Turns.{Turned}
use Rattle.alog_msg.specs.declared.item.Item.{Item}
use Rattle.alog_pool.specs.Back.{seat_member}
use Rattle.alog_pool.specs.SinkSeat.{Answer, SinkSeatView, fault_in}
use Rattle.alog_pool.specs.Deeds.{Due, HasDone, IsOwnFlush, all_dues, dues_on, faults_in}
use Rattle.alog_pool.specs.Gaps.{with_gaps}
use Rattle.alog_pool.specs.OneWorker.{IsWritten}
use Rattle.alog_pool.specs.Places.{Each2}
use Rattle.alog_pool.specs.Pool.{lanes_of}
use Rattle.alog_pool.specs.Posted.{AreInARow, tickets_of}
use Rattle.alog_pool.specs.Report.{AreClosed, HasServed, IsClosed, IsRising, MadeAll}
use Rattle.alog_pool.specs.Rows.{heads, tails}
use Rattle.alog_pool.specs.Workers.{AreAllWritten, IsMerged, IsNext, WorkersWriteWhatWasPosted}
use Rattle.alog_pool.specs.declared.worker.Worker.{Worker}
use Rattle.alog_pool.proofs.SharedBack.{sum_of_map}
use Rattle.alog_pool.proofs.SharedHeld.{Turn, texts_held}
use Rattle.alog_pool.proofs.InARow.{in_a_row}
use Rattle.alog_pool.proofs.Posted.{posted, work_by}
use Rattle.alog_pool.proofs.SharedPosted.{work_dues, work_tickets_are}
use Rattle.alog_pool.proofs.SharedServed.{rising_works}
use Rattle.alog_pool.specs.declared.shared.Shared.{Shared}
use Rattle.alog_sink.specs.Files.{Files}
use Rattle.alog_sink.specs.declared.sink.Sink.{Sink}

abbrev pub One : Type 0
One = Member (Turned Item Buffer Answer)

abbrev pub Given : Type 0
Given = ℕ × Item

-- the first of merged turns is an own flush, or the first of what is due of one of the rows
due_next : (x : Turn) (rows rests : List (List Turn)) (dues : List (List Given)) → IsNext x rows rests → Each2 HasDone rows dues
    → (IsOwnFlush x.deed × Each2 HasDone rests dues)
    ⊎ ((left : List (List Given)) × IsNext (x.deed.tag, x.deed.item) dues left × Each2 HasDone rests left)
due_next x [] [] dues is each = absurd is
due_next x [] (rest ∷ rests) dues is each = absurd is
due_next x (row ∷ rows) [] dues is each = absurd is
due_next x (row ∷ rows) (rest ∷ rests) [] is each = absurd each
due_next x (row ∷ rows) (rest ∷ rests) (ds ∷ dues) (inl is) each =
    let others = subst (λ (ls : List (List Turn)). Each2 HasDone ls dues) is.1 each.1 in
    let first : HasDone (x ∷ rest) ds = subst (λ (l : List Turn). HasDone l ds) is.0 each.0 in
    elim first [ inl own ↦ inl (own.0, (own.1, others)) | inr due ↦ inr (due.0 ∷ dues, inl (due.1, refl), (due.2, others)) ]
due_next x (row ∷ rows) (rest ∷ rests) (ds ∷ dues) (inr is) each =
    let first : HasDone rest ds = subst (λ (l : List Turn). HasDone l ds) is.0 each.0 in
    elim (due_next x rows rests dues is.1 each.1) [
      | inl own ↦ inl (own.0, (first, own.1))
      | inr due ↦ inr (ds ∷ due.0, inr (refl, due.1), (first, due.2))
    ]

none_due : (rows : List (List Turn)) (dues : List (List Given)) → AllByRecursion (λ (row : List Turn). row ≡ []) rows
    → Each2 HasDone rows dues → AllByRecursion (λ (ds : List Given). ds ≡ []) dues
none_due [] [] none each = tt
none_due [] (ds ∷ dues) none each = absurd each
none_due (row ∷ rows) [] none each = absurd each
none_due (row ∷ rows) (ds ∷ dues) none each = (subst (λ (l : List Turn). HasDone l ds) none.0 each.0, none_due rows dues none.1 each.1)

-- of merged turns those that are due are what is due of each row, merged
pub merged_due : (h : List Turn) (rows : List (List Turn)) (dues : List (List Given)) → IsMerged h rows → Each2 HasDone rows dues
    → (turns : List Given) × IsMerged turns dues × HasDone h turns
merged_due [] rows dues is each = ([], none_due rows dues is each, refl)
merged_due (x ∷ h) rows dues is each =
    elim (due_next x rows is.0 dues is.1 each) [
      | inl own ↦ let more = merged_due h is.0 dues is.2 own.1 in (more.0, more.1, inl (own.0, more.2))
      | inr due ↦ let more = merged_due h is.0 due.0 is.2 due.2 in
          ((x.deed.tag, x.deed.item) ∷ more.0, (due.0, due.1, more.1), inr (more.0, refl, more.2))
    ]

-- one list alone
pub merged_alone : {A : Type 0} (xs row : List A) → IsMerged xs (row ∷ []) → xs ≡ row
merged_alone [] row is = sym is.0
merged_alone {A} (x ∷ xs) row ([], next, more) = absurd next
merged_alone {A} (x ∷ xs) row (rest ∷ [], inl next, more) = ap (λ (l : List A). x ∷ l) (merged_alone xs rest more) ∙ sym next.0
merged_alone {A} (x ∷ xs) row (rest ∷ [], inr next, more) = absurd next.1
merged_alone {A} (x ∷ xs) row (rest ∷ other ∷ rests, inl next, more) = let bad = next.1 in absurd (cc bad)
merged_alone {A} (x ∷ xs) row (rest ∷ other ∷ rests, inr next, more) = absurd next.1

-- each member's own entries of a history
abbrev pub rows_of : List One → List Turn → List (List Turn)
rows_of ms h = map (λ (m : One). own_of m.seat h) ms

unchanged : (ms : List One) (x : Turn) (h : List Turn) → ¬ IsAmong x.seat ms → rows_of ms (x ∷ h) ≡ rows_of ms h
unchanged [] x h apart = refl
unchanged (m ∷ ms) x h apart =
    on_test (λ b. cond b (x ∷ own_of m.seat h) (own_of m.seat h) ∷ rows_of ms (x ∷ h) ≡ rows_of (m ∷ ms) h) x.seat m.seat
    (λ same. absurd (apart (inl same)))
    (λ _. ap (λ (rows : List (List Turn)). own_of m.seat h ∷ rows) (unchanged ms x h (λ is. apart (inr is))))

next_of : (ms : List One) (x : Turn) (h : List Turn) → AreDistinct ms → IsAmong x.seat ms → IsNext x (rows_of ms (x ∷ h)) (rows_of ms h)
next_of [] x h distinct is = absurd is
next_of (m ∷ ms) x h distinct is =
    on_test (λ b. IsNext x (cond b (x ∷ own_of m.seat h) (own_of m.seat h) ∷ rows_of ms (x ∷ h)) (own_of m.seat h ∷ rows_of ms h))
    x.seat m.seat
    (λ same. inl (refl, unchanged ms x h (λ later. distinct.0 (subst (λ a. IsAmong a ms) same later))))
    (λ other. inr (refl, next_of ms x h distinct.1 (elim is [ inl same ↦ absurd (other same) | inr later ↦ later ])))

none_of : (ms : List One) → AllByRecursion (λ (row : List Turn). row ≡ []) (rows_of ms [])
none_of [] = tt
none_of (m ∷ ms) = (refl, none_of ms)

pub merged : (ms : List One) (h : List Turn) → AreDistinct ms → AllByRecursion (λ (x : Turn). IsAmong x.seat ms) h → IsMerged h (rows_of ms h)
merged ms [] distinct each = none_of ms
merged ms (x ∷ h) distinct each = (rows_of ms h, next_of ms x h distinct each.0, merged ms h distinct each.1)

-- no entry is of the one who made none
not_mine : (a : ℕ) (ms : List One) (h : List Turn) → own_of a h ≡ [] → AllByRecursion (λ (x : Turn). (x.seat ≡ a) ⊎ IsAmong x.seat ms) h
    → AllByRecursion (λ (x : Turn). IsAmong x.seat ms) h
not_mine a ms [] none all = tt
not_mine a ms (x ∷ h) none all =
    on_test (λ t. cond t (x ∷ own_of a h) (own_of a h) ≡ [] → AllByRecursion (λ (y : Turn). IsAmong y.seat ms) (x ∷ h)) x.seat a
    (λ _ e. absurd (cc e))
    (λ other e. (elim all.0 [ inl same ↦ absurd (other same) | inr is ↦ is ], not_mine a ms h e all.1)) none

-- the faults of turns that are merged
next_faults : (x : Turn) (rows rests : List (List Turn)) → IsNext x rows rests
    → sum_by faults_in rows ≡ fault_in x.deed.reply + sum_by faults_in rests
next_faults x [] [] is = absurd is
next_faults x [] (rest ∷ rests) is = absurd is
next_faults x (row ∷ rows) [] is = absurd is
next_faults x (row ∷ rows) (rest ∷ rests) (inl is) =
    let whole : sum_by faults_in (row ∷ rows) ≡ faults_in row + sum_by faults_in rows = sum_by-cons faults_in row rows in
    let left : sum_by faults_in (rest ∷ rests) ≡ faults_in rest + sum_by faults_in rests = sum_by-cons faults_in rest rests in
    let first : faults_in row ≡ fault_in x.deed.reply + faults_in rest = ap (λ (l : List Turn). faults_in l) is.0 in
    let others : sum_by faults_in rows ≡ sum_by faults_in rests = ap (λ (ls : List (List Turn)). sum_by faults_in ls) is.1 in
    omega (arith, whole, left, first, others)
next_faults x (row ∷ rows) (rest ∷ rests) (inr is) =
    let whole : sum_by faults_in (row ∷ rows) ≡ faults_in row + sum_by faults_in rows = sum_by-cons faults_in row rows in
    let left : sum_by faults_in (rest ∷ rests) ≡ faults_in rest + sum_by faults_in rests = sum_by-cons faults_in rest rests in
    let first : faults_in row ≡ faults_in rest = ap (λ (l : List Turn). faults_in l) is.0 in
    omega (arith, whole, left, first, next_faults x rows rests is.1)

no_faults : (rows : List (List Turn)) → AllByRecursion (λ (row : List Turn). row ≡ []) rows → sum_by faults_in rows ≡ 0
no_faults [] none = refl
no_faults (row ∷ rows) none =
    let whole : sum_by faults_in (row ∷ rows) ≡ faults_in row + sum_by faults_in rows = sum_by-cons faults_in row rows in
    let first : faults_in row ≡ 0 = ap (λ (l : List Turn). faults_in l) none.0 in omega (arith, whole, first, no_faults rows none.1)

pub merged_faults : (h : List Turn) (rows : List (List Turn)) → IsMerged h rows → faults_in h ≡ sum_by faults_in rows
merged_faults [] rows is = sym (no_faults rows is)
merged_faults (x ∷ h) rows is =
    let one = next_faults x rows is.0 is.1 in
    let rest = merged_faults h is.0 is.2 in omega (arith, one, rest)

module _ {S : Type 0} (tells : Bool) (files : S → Files) (failures : S → ℕ) where
  pub own_rows : List (SinkSeatView S) → List (List Turn)
  own_rows bs = map (λ (b : SinkSeatView S). b.seat.known.own) bs

  pub exact_rows : (bs : List (SinkSeatView S)) (h : List Turn) → AreExact (map (λ (b : SinkSeatView S). seat_member b) bs) h
      → rows_of (map (λ (b : SinkSeatView S). seat_member b) bs) h ≡ own_rows bs
  unfolding own_rows
  exact_rows [] h exact = refl
  exact_rows (b ∷ bs) h exact = λ i. sym exact.0 i ∷ exact_rows bs h exact.1 i

  -- the place's seat did these turns
  abbrev pub DidAt : SinkSeatView S → List Given → Type 0
  DidAt b turns = HasDone b.seat.known.own turns

  pub done_rows : (bs : List (SinkSeatView S)) (dues : List (List Given)) → Each2 DidAt bs dues → Each2 HasDone (own_rows bs) dues
  unfolding own_rows
  done_rows [] [] each = tt
  done_rows [] (ds ∷ dues) each = absurd each
  done_rows (b ∷ bs) [] each = absurd each
  done_rows (b ∷ bs) (ds ∷ dues) each = (each.0, done_rows bs dues each.1)

  pub row_faults : (bs : List (SinkSeatView S)) → sum_by faults_in (own_rows bs)
      ≡ sum_by (λ (b : SinkSeatView S). faults_in b.seat.known.own) bs
  unfolding own_rows
  row_faults bs = sum_of_map (λ (b : SinkSeatView S). b.seat.known.own) faults_in bs

  abbrev pub IsWrittenBy : Sink S → Sink S → ℕ → List (List Given) → Type 0
  IsWrittenBy first last faults rows =
      (turns : List Given) × IsMerged turns rows × IsWritten tells files failures first last faults turns

  closed_lane : (l : LaneId (Sink S)) (bs : List (SinkSeatView S)) (k : Sink S) (f : ℕ) (rows : List (List Given))
      → IsClosed tells files failures l bs k f → Each2 DidAt bs rows → IsWrittenBy l.first k f rows
  closed_lane l bs k f rows c made =
      let h : List Turn = c.end.seen in
      let ms : List One = map (λ (b : SinkSeatView S). seat_member b) bs in
      let whole = subst (λ (us : List One). AllByRecursion (λ (x : Turn). (x.seat ≡ c.end.seat) ⊎ IsAmong x.seat us) h)
      c.members c.closes.whole in
      let exact : AreExact ms h = subst (λ (us : List One). AreExact us h) c.members c.closes.faithful.joined in
      let distinct : AreDistinct ms = subst (λ (us : List One). AreDistinct us) c.members c.closes.faithful.distinct.1 in
      let mine : own_of c.end.seat h ≡ [] = sym c.closes.faithful.own ∙ c.own in
      let merge : IsMerged h (own_rows bs) =
      subst (λ (rs : List (List Turn)). IsMerged h rs) (exact_rows bs h exact)
      (merged ms h distinct (not_mine c.end.seat ms h mine whole)) in
      let all : faults_in h ≡ sum_by (λ (b : SinkSeatView S). faults_in b.seat.known.own) bs =
      merged_faults h (own_rows bs) merge ∙ row_faults bs in
      let counted : f ≡ min (faults_in h) (2 ^ 64 - 1) = c.faults_are ∙ ap (λ (n : ℕ). min n (2 ^ 64 - 1)) (sym all) in
      let due = merged_due h (own_rows bs) rows merge (done_rows bs rows made) in (
        due.0,
        due.1,
        record {
          history = h;
          done = due.2;
          leads = c.closes.leads;
          faults_are = counted;
          holds = texts_held tells files failures l.first k h due.0 due.2 c.closes.leads counted;
        },
      )

  -- a worker's places, of which the first is that at the sink of this number, and what was due there
  abbrev pub IsRow : ℕ → List (LaneId (Sink S)) → List (SinkSeatView S) → List Due → Type 0
  IsRow s ls row dues = (lanes_of row ≡ ls) × MadeAll s row dues

  pub heads_made : (s : ℕ) (l : LaneId (Sink S)) (ls : List (LaneId (Sink S))) (rows : List (List (SinkSeatView S))) (dues : List (List Due))
      → Each2 (IsRow s (l ∷ ls)) rows dues → Each2 DidAt (heads rows) (map (λ (ds : List Due). dues_on s ds) dues)
  heads_made s l ls [] [] each = tt
  heads_made s l ls [] (d ∷ dues) each = absurd each
  heads_made s l ls (row ∷ rows) [] each = absurd each
  heads_made s l ls ([] ∷ rows) (d ∷ dues) each = let bad = each.0.0 in absurd (cc bad)
  heads_made s l ls ((b ∷ bs) ∷ rows) (d ∷ dues) each = (each.0.1.0, heads_made s l ls rows dues each.1)

  pub tails_made : (s : ℕ) (l : LaneId (Sink S)) (ls : List (LaneId (Sink S))) (rows : List (List (SinkSeatView S))) (dues : List (List Due))
      → Each2 (IsRow s (l ∷ ls)) rows dues → Each2 (IsRow (s + 1) ls) (tails rows) dues
  tails_made s l ls [] [] each = tt
  tails_made s l ls [] (d ∷ dues) each = absurd each
  tails_made s l ls (row ∷ rows) [] each = absurd each
  tails_made s l ls ([] ∷ rows) (d ∷ dues) each = let bad = each.0.0 in absurd (cc bad)
  tails_made s l ls ((b ∷ bs) ∷ rows) (d ∷ dues) each =
      let same = each.0.0 in
      let rest : lanes_of bs ≡ ls = cc same in ((rest, each.0.1.1), tails_made s l ls rows dues each.1)

  pub closed_all : (s : ℕ) (ls : List (LaneId (Sink S))) (rows : List (List (SinkSeatView S))) (ks : List (Sink S)) (fs : List ℕ)
      (dues : List (List Due)) → AreClosed tells files failures ls rows ks fs → Each2 (IsRow s ls) rows dues
      → AreAllWritten tells files failures s ls ks fs dues
  closed_all s [] rows [] [] dues closed each = tt
  closed_all s [] rows [] (f ∷ fs) dues closed each = absurd closed
  closed_all s [] rows (k ∷ ks) fs dues closed each = absurd closed
  closed_all s (l ∷ ls) rows [] fs dues closed each = absurd closed
  closed_all s (l ∷ ls) rows (k ∷ ks) [] dues closed each = absurd closed
  closed_all s (l ∷ ls) rows (k ∷ ks) (f ∷ fs) dues closed each = (
    closed_lane l (heads rows) k f (map (λ (ds : List Due). dues_on s ds) dues) closed.0 (heads_made s l ls rows dues each),
    closed_all (s + 1) ls (tails rows) ks fs dues closed.1 (tails_made s l ls rows dues each),
  )

  -- what the workers of a pool served
  module _ (shared : Shared) (lanes : List (LaneId (Sink S))) (most : ℕ) where
    pub rows_made : (hs : List (Worker S)) → AllByRecursion (HasServed shared lanes most) hs
        → Each2 (IsRow 0 lanes) (map (λ (h : Worker S). h.sink_seats.items) hs)
        (map (λ (work : List Given). all_dues shared.loggers (with_gaps shared.gaps work)) (map (λ (h : Worker S). work_by h) hs))
    rows_made [] served = tt
    rows_made (h ∷ hs) served = (
      (
        served.0.lanes_are,
        subst (λ (ds : List Due). MadeAll 0 h.sink_seats.items ds) (work_dues shared.loggers shared.gaps (takes h.pass.known.own))
            served.0.turns,
      ),
      rows_made hs served.1,
    )

    pub works_rise : (hs : List (Worker S)) → AllByRecursion (HasServed shared lanes most) hs
        → AllByRecursion (λ (work : List Given). IsRising (tickets_of work)) (map (λ (h : Worker S). work_by h) hs)
    works_rise [] served = tt
    works_rise (h ∷ hs) served = (
      subst (λ (ts : List ℕ). IsRising ts) (work_tickets_are (takes h.pass.known.own))
          (rising_works (takes h.pass.known.own) served.0.rising),
      works_rise hs served.1,
    )

    works_listed : (hs : List (Worker S)) → AllByRecursion (HasServed shared lanes most) hs
        → map (λ (h : Worker S). h.tickets.items) hs
        ≡ map (λ (work : List Given). take most (tickets_of work)) (map (λ (h : Worker S). work_by h) hs)
    works_listed [] served = refl
    works_listed (h ∷ hs) served =
        let first = served.0.work.tickets_are ∙ ap (λ (ts : List ℕ). take most ts) (work_tickets_are (takes h.pass.known.own)) in
        λ i. first i ∷ works_listed hs served.1 i

    pub put_nothing : (hs : List (Worker S)) → AllByRecursion (HasServed shared lanes most) hs
        → AllByRecursion (λ (h : Worker S). claims h.pass.known.own ≡ []) hs
    put_nothing [] served = tt
    put_nothing (h ∷ hs) served = (served.0.work.puts, put_nothing hs served.1)

  pub workers_write : WorkersWriteWhatWasPosted tells files failures
  workers_write pool producers r ends =
      let shared = pool.shared in
      let lanes = lanes_of pool.sink_seats in
      record {
        works = map (λ (h : Worker S). work_by h) ends.crew;
        count = length-map ends.crew (λ (h : Worker S). work_by h) ∙ ends.count;
        rise = works_rise shared lanes pool.most ends.crew ends.served;
        listed = ends.tickets ∙ works_listed shared lanes pool.most ends.crew ends.served;
        row = subst (λ (f : ℕ). AreInARow f producers) ends.ring.1 (in_a_row producers ends.crew ends.end ends.moment ends.members ends.stops.0
            (put_nothing shared lanes pool.most ends.crew ends.served));
        posted = posted producers ends.crew ends.end ends.whole ends.members ends.stops.0
            (put_nothing shared lanes pool.most ends.crew ends.served) ends.out;
        written = closed_all 0 lanes (map (λ (h : Worker S). h.sink_seats.items) ends.crew) r.sinks.items r.faults.items
            (map (λ (work : List Given). all_dues shared.loggers (with_gaps shared.gaps work)) (map (λ (h : Worker S). work_by h) ends.crew)) ends.sinks
            (rows_made shared lanes pool.most ends.crew ends.served);
      }
