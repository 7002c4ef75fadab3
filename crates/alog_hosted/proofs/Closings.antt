-- Parts that come back to a host: places beside their lanes, and workers, one by one.
use Rattle.std.proofs.Common.{◌≡◌, ◌<◌, ◌≤◌, ◌+◌, ◌-◌, ◌%◌, ◌^◌, ℕ, zero, suc, min, Bool, List, [], ◌∷◌, ◌++◌, drop, map, length, length-append, slice_set, refl, sym, ap, subst, ◌∙◌, append_assoc, append-nil, arith}
use Rattle.std.specs.Prelude.{slice_index_or, Option, None, Some, Vec}
use Rattle.std.specs.List.{AllByRecursion}
use Rattle.std.specs.Iterator.{Yields}
use Rattle.std.specs.Vec.Iter.{into_iter_items, into_iter_steps}
use Rattle.std.specs.declared.alloc.Global.{Global}
use Rattle.std.specs.declared.vec.IntoIter.{IntoIter}
use Rattle.std.proofs.lemmas.List.{map-append}
use Rattle.alog_core.proofs.SharedCalls.{given_front}
use Rattle.alog_format.specs.Buffer.{Buffer}
use Rattle.alog_hosted.specs.Closing.{AreAtLimit, Collects, EndAll, halves_of, owed_in}
use Rattle.alog_hosted.specs.Ends.{EndsPlace, WasWorker, all_owed, worker_member}
use Rattle.alog_core.specs.Accounts.{takes}
use Rattle.alog_hosted.specs.Owed.{OwesLast, owed_of}
use Rattle.alog_hosted.specs.Workers.{IsWorker, WorkerView}
use Rattle.alog_hosted.specs.declared.blank.Half.{Half}
use Rattle.alog_hosted.specs.declared.owed.Owed.{Owed}
use Rattle.alog_lane.specs.Calls.{LaneId}
use Rattle.alog_lane.specs.Seats as lane
use Rattle.alog_lane.specs.Turns.{Turned}
use Rattle.alog_msg.specs.Block.{BlockFields}
use Rattle.alog_msg.specs.declared.item.Item.{Item}
use Rattle.alog_pool.specs.Back.{HasBack}
use Rattle.alog_pool.specs.Collected.{HaveBack, TakesBack}
use Rattle.alog_pool.specs.Deeds.{Due, dues_of}
use Rattle.alog_pool.specs.Places.{Each3}
use Rattle.alog_pool.specs.Pool.{lanes_of}
use Rattle.alog_pool.specs.SinkSeat.{Answer, SinkSeatView}
use Rattle.alog_pool.specs.declared.shared.Shared.{Shared}
use Rattle.alog_pool.proofs.SharedRows.{ones, rows_more}
use Rattle.alog_pool.proofs.SharedServed.{made_all, made_counted}
use Rattle.alog_pool.proofs.SharedBack.{back_one, sum_more}
use Rattle.alog_pool.proofs.SharedSharing.{Sharing, all_more}
use Rattle.alog_registry.specs.BlockPort.{block_note}
use Rattle.alog_registry.specs.Limit.{KeepsTo}
use Rattle.alog_registry.specs.declared.logger.Logger.{Logger}
use Rattle.alog_ring.specs.Known.{Known, Member}
use Rattle.alog_ring.specs.Share.{Joins}
use Rattle.alog_sink.specs.Files.{Files}
use Rattle.alog_sink.specs.declared.sink.Sink.{Sink}

-- The front of a list that was gone through, and the next of it.
pub front_next : {X : Type 0} (all done still : List X) (x : X) (rest : List X) → all ≡ done ++ still → still ≡ x ∷ rest → all ≡ done ++ x ∷ rest
front_next {X} all done still x rest front first = front ∙ ap (λ (l : List X). done ++ l) first

pub front_below : {X : Type 0} (all done : List X) (x : X) (rest : List X) → all ≡ done ++ x ∷ rest → length done < length all
front_below all done x rest front =
    let more = ap length front ∙ length-append done (x ∷ rest) in omega (arith, more)

-- what an iterator gave, and the next of it
pub given_next : {X A : Type 0} (all : List X) (s : IntoIter X A) (done : List X) (t : IntoIter X A) (x : X) (rest : List X)
    → into_iter_items s ≡ all → Yields into_iter_steps s done t → into_iter_items t ≡ x ∷ rest → all ≡ done ++ x ∷ rest
given_next all s done t x rest is yields first = front_next all done (into_iter_items t) x rest (sym is ∙ given_front s done t yields) first

module _ {S : Type 0} where
  -- the lane at a number is that of the place at that number
  pub lane_here : (bs : List (SinkSeatView S)) (ls : List (LaneId (Sink S))) (i : ℕ) (d : LaneId (Sink S)) (e : SinkSeatView S)
      → lanes_of bs ≡ ls → i < length bs → slice_index_or ls i d ≡ (slice_index_or bs i e).lane
  lane_here [] ls i d e same low = absurd (omega (arith, low))
  lane_here (b ∷ bs) [] i d e same low = absurd (cc same)
  lane_here (b ∷ bs) (l ∷ ls) zero d e same low = cc same
  lane_here (b ∷ bs) (l ∷ ls) (suc i) d e same low = lane_here bs ls i d e (cc same) (omega (arith, low))

  -- it stays as places are taken back
  pub shared_lanes : (i : ℕ) (old new given : List (SinkSeatView S)) → Sharing TakesBack i old new given → lanes_of new ≡ lanes_of old
  shared_lanes zero old new given m = ap (λ (l : List (SinkSeatView S)). lanes_of l) m.0
  shared_lanes (suc i) [] new given m = absurd m
  shared_lanes (suc i) (x ∷ xs) [] given m = absurd m
  shared_lanes (suc i) (x ∷ xs) (y ∷ ys) [] m = absurd m
  shared_lanes (suc i) (x ∷ xs) (y ∷ ys) (z ∷ zs) m = λ k. m.0.lane k ∷ shared_lanes i xs ys zs m.1 k

  pub lanes_length : (bs : List (SinkSeatView S)) (ls : List (LaneId (Sink S))) → lanes_of bs ≡ ls → length ls ≡ length bs
  lanes_length [] [] same = refl
  lanes_length [] (l ∷ ls) same = absurd (cc same)
  lanes_length (b ∷ bs) [] same = absurd (cc same)
  lanes_length (b ∷ bs) (l ∷ ls) same = λ k. suc (lanes_length bs ls (cc same) k)

  lanes_next : (bs : List (SinkSeatView S)) (b : SinkSeatView S) (rest : List (SinkSeatView S)) (l : LaneId (Sink S)) (ls : List (LaneId (Sink S)))
      → lanes_of (bs ++ b ∷ rest) ≡ lanes_of bs ++ l ∷ ls → l ≡ b.lane
  lanes_next [] b rest l ls same = cc same
  lanes_next (x ∷ bs) b rest l ls same = lanes_next bs b rest l ls (cc same)

  -- the next lane is that of the next place
  pub lanes_meet : (all : List (SinkSeatView S)) (lanes : List (LaneId (Sink S))) (bs : List (SinkSeatView S)) (b : SinkSeatView S)
      (rest : List (SinkSeatView S)) (still : List (LaneId (Sink S))) (l : LaneId (Sink S)) (ls : List (LaneId (Sink S)))
      → all ≡ bs ++ b ∷ rest → lanes_of all ≡ lanes → lanes ≡ lanes_of bs ++ still → still ≡ l ∷ ls → l ≡ b.lane
  lanes_meet all lanes bs b rest still l ls front same done first =
      lanes_next bs b rest l ls
      (sym (ap (λ (k : List (SinkSeatView S)). lanes_of k) front) ∙ same ∙ front_next lanes (lanes_of bs) still l ls done first)

  pub lanes_more : (bs : List (SinkSeatView S)) (b : SinkSeatView S) (l : LaneId (Sink S)) (ls : List (LaneId (Sink S)))
      → l ≡ b.lane → lanes_of bs ++ l ∷ ls ≡ lanes_of (bs ++ b ∷ []) ++ ls
  lanes_more [] b l ls same = λ i. same i ∷ ls
  lanes_more (x ∷ bs) b l ls same = λ i. x.lane ∷ lanes_more bs b l ls same i

-- what is owed for the items that come back half done
owed_append : (loggers : List Logger) (hs js : List Half) → owed_in loggers (hs ++ js) ≡ owed_in loggers hs ++ owed_in loggers js
owed_append loggers [] js = refl
owed_append loggers (h ∷ hs) js =
    let first : List Due = drop h.owed.place (dues_of loggers h.owed.ticket h.block.item) in
    ap (λ (l : List Due). first ++ l) (owed_append loggers hs js) ∙ sym (append_assoc first (owed_in loggers hs) (owed_in loggers js))

pub owed_halves : (loggers : List Logger) (block : BlockFields) (o : Option Owed)
    → owed_in loggers (halves_of block o) ≡ owed_of loggers o block.item
owed_halves loggers block None = refl
owed_halves loggers block (Some o) = append-nil (drop o.place (dues_of loggers o.ticket block.item))

pub limit_halves : (limit : ℕ) (block : BlockFields) (o : Option Owed) → KeepsTo limit block.item
    → AllByRecursion (AreAtLimit limit) (halves_of block o)
limit_halves limit block None keeps = tt
limit_halves limit block (Some o) keeps = (keeps, tt)

pub few_halves : (block : BlockFields) (o : Option Owed) → length (halves_of block o) ≤ 1
few_halves block None = omega arith
few_halves block (Some o) = omega arith

all_both : {A : Type 0} (P : A → Type 0) (xs ys : List A) → AllByRecursion P xs → AllByRecursion P ys → AllByRecursion P (xs ++ ys)
all_both P [] ys all rest = rest
all_both P (x ∷ xs) ys all rest = (all.0, all_both P xs ys all.1 rest)

abbrev Turn : Type 0
Turn = lane.Entry (Turned Item Buffer Answer)

module _ {S : Type 0} where
  owed_more : (ws : List (WorkerView S)) (w : WorkerView S) → all_owed (ws ++ w ∷ []) ≡ all_owed ws ++ w.owed
  owed_more [] w = append-nil w.owed
  owed_more (v ∷ ws) w =
      ap (λ (l : List Due). v.owed ++ l) (owed_more ws w) ∙ sym (append_assoc v.owed (all_owed ws) w.owed)

  pub was_worker : (w : WorkerView S) (block : BlockFields) → IsWorker w.shared w.pass block w.places w.tickets w.handled w.most w.owed
      → OwesLast w.shared.loggers (takes w.pass.known.own) w.owed → WasWorker w
  was_worker w block is owes = record {
    work = is.work;
    ones = ones is.start w.places is.same is.began;
    counted = made_counted 0 is.start w.places is.made is.turns is.began;
    made = is.made;
    all = is.all;
    owes = owes;
    turns = made_all 0 is.start w.places is.made is.turns is.began;
  }

  -- what one more worker brings
  pub record Brings (shared : Shared) (k l : Known Item block_note) (cs ds : List (SinkSeatView S)) (noted : Vec ℕ Global) (more : List Half)
      (w : WorkerView S) : Type 0 where
    pub joins : Joins k w.pass.known l
    pub takes : Each3 TakesBack cs ds w.places
    pub noted_are : noted.items ≡ w.tickets
    pub owed : owed_in shared.loggers more ≡ w.owed
    pub limits : AllByRecursion (AreAtLimit shared.ring.ring.limit.most) more
    pub was : WasWorker w

  pub collects_more : (shared : Shared) (done : List (WorkerView S)) (j k l : Known Item block_note) (bs cs ds : List (SinkSeatView S))
      (tickets : List (Vec ℕ Global)) (halves : List Half) (all : ℕ) (noted : Vec ℕ Global) (more : List Half) (w : WorkerView S)
      → Collects shared done j k bs cs tickets halves all → Brings shared k l cs ds noted more w
      → Collects shared (done ++ w ∷ []) j l bs ds (tickets ++ noted ∷ []) (halves ++ more) ((all + w.handled) % 2 ^ 64)
  collects_more shared done j k l bs cs ds tickets halves all noted more w c b =
      let W : Type 0 = WorkerView S in
      let M : Type 0 = Member Item block_note in
      let V : Type 0 = Vec ℕ Global in
      let B : Type 0 = SinkSeatView S in
      record {
        passes = subst (λ (ms : List M). HasBack j l ms) (sym (map-append (λ (v : W). worker_member v) done (w ∷ [])))
            (back_one c.passes b.joins b.was.work.joined b.was.work.parts);
        places_are = subst (λ (rows : List (List B)). HaveBack bs ds rows) (sym (map-append (λ (v : W). v.places) done (w ∷ [])))
            (rows_more bs cs ds w.places (map (λ (v : W). v.places) done) c.places_are b.takes b.was.ones);
        tickets_are = map-append (λ (v : V). v.items) tickets (noted ∷ [])
            ∙ (λ i. c.tickets_are i ++ b.noted_are i ∷ [])
            ∙ sym (map-append (λ (v : W). v.tickets) done (w ∷ []));
        handled_is = sum_more (λ (v : W). v.handled) done w all c.handled_is;
        owed = owed_append shared.loggers halves more ∙ (λ i. c.owed i ++ b.owed i) ∙ sym (owed_more done w);
        limits = all_both (AreAtLimit shared.ring.ring.limit.most) halves more c.limits b.limits;
        worked = all_more WasWorker done w c.worked b.was;
      }

pub capped : (r n m more : ℕ) → r ≡ min (n + more) (2 ^ 64 - 1) → n ≡ m → r ≡ min (m + more) (2 ^ 64 - 1)
capped r n m more is same = is ∙ ap (λ k. min (k + more) (2 ^ 64 - 1)) same

module _ {S : Type 0} (tells : Bool) (files : S → Files) (failures : S → ℕ) where
  -- a place was ended, and its faults added to those that were listed
  abbrev pub EndsOne : SinkSeatView S → ℕ → Sink S → ℕ → Type 0
  EndsOne b f k g = (more : ℕ) × EndsPlace tells files failures b k more × (g ≡ min (f + more) (2 ^ 64 - 1))

  -- these places were, and the other faults are as they were
  abbrev pub Ending : List (SinkSeatView S) → List ℕ → List (Sink S) → List ℕ → Type 0
  Ending [] fs [] gs = gs ≡ fs
  Ending [] fs (k ∷ ks) gs = ⊥
  Ending (b ∷ bs) (f ∷ fs) (k ∷ ks) (g ∷ gs) = EndsOne b f k g × Ending bs fs ks gs
  Ending (b ∷ bs) [] ks gs = ⊥
  Ending (b ∷ bs) (f ∷ fs) [] gs = ⊥
  Ending (b ∷ bs) (f ∷ fs) (k ∷ ks) [] = ⊥

  pub ending_lengths : (bs : List (SinkSeatView S)) (fs : List ℕ) (ks : List (Sink S)) (gs : List ℕ) → Ending bs fs ks gs
      → (length ks ≡ length bs) × (length gs ≡ length fs)
  ending_lengths [] fs [] gs e = (refl, λ i. length (e i))
  ending_lengths [] fs (k ∷ ks) gs e = absurd e
  ending_lengths (b ∷ bs) [] ks gs e = absurd e
  ending_lengths (b ∷ bs) (f ∷ fs) [] gs e = absurd e
  ending_lengths (b ∷ bs) (f ∷ fs) (k ∷ ks) [] e = absurd e
  ending_lengths (b ∷ bs) (f ∷ fs) (k ∷ ks) (g ∷ gs) e =
      let rest = ending_lengths bs fs ks gs e.1 in ((λ i. suc (rest.0 i)), (λ i. suc (rest.1 i)))

  ending_one : (bs : List (SinkSeatView S)) (fs : List ℕ) (ks : List (Sink S)) (gs : List ℕ) (b : SinkSeatView S) (k : Sink S) (d g : ℕ)
      → length bs < length gs → EndsOne b (slice_index_or gs (length bs) d) k g → Ending bs fs ks gs
      → Ending (bs ++ b ∷ []) fs (ks ++ k ∷ []) (slice_set gs (length bs) g)
  ending_one [] fs [] [] b k d g low ends e = absurd (omega (arith, low))
  ending_one [] fs [] (h ∷ gs) b k d g low ends e =
      subst (λ (l : List ℕ). Ending (b ∷ []) l (k ∷ []) (g ∷ gs)) e (ends, refl)
  ending_one [] fs (j ∷ ks) gs b k d g low ends e = absurd e
  ending_one (a ∷ bs) [] ks gs b k d g low ends e = absurd e
  ending_one (a ∷ bs) (f ∷ fs) [] gs b k d g low ends e = absurd e
  ending_one (a ∷ bs) (f ∷ fs) (j ∷ ks) [] b k d g low ends e = absurd e
  ending_one (a ∷ bs) (f ∷ fs) (j ∷ ks) (h ∷ gs) b k d g low ends e =
      (e.0, ending_one bs fs ks gs b k d g (omega (arith, low)) ends e.1)

  pub ending_next : (bs : List (SinkSeatView S)) (fs : List ℕ) (ks js : List (Sink S)) (gs : List ℕ) (b : SinkSeatView S) (k : Sink S) (d g i : ℕ)
      → i ≡ length bs → length bs < length gs → js ≡ ks ++ k ∷ [] → EndsOne b (slice_index_or gs i d) k g → Ending bs fs ks gs
      → Ending (bs ++ b ∷ []) fs js (slice_set gs i g)
  ending_next bs fs ks js gs b k d g i at low made ends e =
      subst (λ (l : List (Sink S)). Ending (bs ++ b ∷ []) fs l (slice_set gs i g)) (sym made)
      (subst (λ n. Ending (bs ++ b ∷ []) fs (ks ++ k ∷ []) (slice_set gs n g)) (sym at)
      (ending_one bs fs ks gs b k d g low (subst (λ n. EndsOne b (slice_index_or gs n d) k g) at ends) e))

  pub ending_all : (bs : List (SinkSeatView S)) (fs : List ℕ) (ks : List (Sink S)) (gs : List ℕ) → length fs ≡ length bs
      → Ending bs fs ks gs → EndAll tells files failures bs fs ks gs
  ending_all [] [] [] gs same e = subst (λ (l : List ℕ). EndAll tells files failures [] [] [] l) (sym e) tt
  ending_all [] (f ∷ fs) ks gs same e = absurd (omega (arith, same))
  ending_all [] [] (k ∷ ks) gs same e = absurd e
  ending_all (b ∷ bs) [] ks gs same e = absurd e
  ending_all (b ∷ bs) (f ∷ fs) [] gs same e = absurd e
  ending_all (b ∷ bs) (f ∷ fs) (k ∷ ks) [] same e = absurd e
  ending_all (b ∷ bs) (f ∷ fs) (k ∷ ks) (g ∷ gs) same e = (e.0, ending_all bs fs ks gs (omega (arith, same)) e.1)
