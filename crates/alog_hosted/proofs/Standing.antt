-- The places of a hosted pool, which has all parts again.
use Rattle.std.proofs.Common.{◌≡◌, ℕ, List, [], ◌∷◌, map, length, sym, ap, subst, ◌∙◌, arith}
use Rattle.std.specs.List.{AllByRecursion}
use Rattle.std.proofs.lemmas.List.{length-map}
use Rattle.alog_hosted.proofs.AllEnded.{gave_alone, gave_lanes, gave_limits, gave_many, limited, limits_of, many_lanes, rows_even}
use Rattle.alog_hosted.proofs.Tries.{still_alone}
use Rattle.alog_hosted.specs.Closing.{GivesFaults}
use Rattle.alog_hosted.specs.Ends.{HasBeen, WasWorker, worker_member}
use Rattle.alog_hosted.specs.Host.{HostView, IsHost}
use Rattle.alog_hosted.specs.Lent.{HostedView}
use Rattle.alog_hosted.specs.Owed.{AreAlone}
use Rattle.alog_hosted.specs.Workers.{IsWorkerOf, WorkerView}
use Rattle.alog_msg.specs.Block.{BlockFields}
use Rattle.alog_msg.specs.declared.item.Item.{Item}
use Rattle.alog_policy.specs.BookCalls as book
use Rattle.alog_pool.proofs.SharedClosed.{all_back}
use Rattle.alog_pool.proofs.SharedRows.{place_lanes, rows_lanes}
use Rattle.alog_pool.specs.Back.{HasBack, pass_member}
use Rattle.alog_pool.specs.BacktraceSeat.{BacktraceSeatView}
use Rattle.alog_pool.specs.Collected.{HaveBack}
use Rattle.alog_pool.specs.Places.{Each3}
use Rattle.alog_pool.specs.Pool.{lanes_of}
use Rattle.alog_pool.specs.Producer.{ProducerView}
use Rattle.alog_pool.specs.SinkSeat.{Place, SinkSeatView, place_of, places_of}
use Rattle.alog_pool.specs.Working.{AreLimited}
use Rattle.alog_registry.specs.BlockPort.{block_note}
use Rattle.alog_registry.specs.Limit.{HoldsTo, KeepsTo}
use Rattle.alog_registry.specs.declared.limit.TextLimit.{TextLimit}
use Rattle.alog_ring.specs.Known.{Known, PassView}
use Rattle.alog_ring.specs.declared.TheConstants.{ALL_PARTS}

-- what blocks of a limit carry keeps to it
pub all_keep : (limit : TextLimit) (most : ℕ) (cells : List (ℕ × BlockFields)) → limit.most ≡ most
    → AllByRecursion (λ (p : ℕ × BlockFields). HoldsTo limit p.1) cells → AllByRecursion (λ (p : ℕ × BlockFields). KeepsTo most p.1.item) cells
all_keep limit most [] same all = tt
all_keep limit most (p ∷ cells) same all = (subst (λ n. KeepsTo n p.1.item) same all.0.1, all_keep limit most cells same all.1)

module _ {S : Type 0} where
  -- These places are at the pool's lanes, with its limit, and nobody else has a seat there.
  pub record Stands (hosted : HostedView S) (limit many : ℕ) (bs : List (SinkSeatView S)) : Type 0 where
    pub lanes : lanes_of bs ≡ hosted.lanes
    pub alone : AreAlone bs
    pub limits : AreLimited limit (places_of bs)
    pub count : length bs ≡ many

  stands_gave : {hosted : HostedView S} {limit many : ℕ} (bs cs : List (SinkSeatView S)) (fs : List ℕ) → Stands hosted limit many bs
      → AllByRecursion (λ (b : SinkSeatView S). b.limit ≡ limit) bs → Each3 GivesFaults bs cs fs → Stands hosted limit many cs
  stands_gave {limit} bs cs fs stands is gave = record {
    lanes = gave_lanes bs cs fs gave ∙ stands.lanes;
    alone = gave_alone bs cs fs gave stands.alone;
    limits = limited limit bs cs (gave_limits bs cs fs gave) is;
    count = (gave_many bs cs fs gave).0 ∙ stands.count;
  }

  pub many_places : (bs cs : List (SinkSeatView S)) → places_of cs ≡ places_of bs → length cs ≡ length bs
  many_places bs cs same = sym (length-map cs (λ (b : SinkSeatView S). place_of b)) ∙ ap (λ (l : List (Place S)). length l) same
      ∙ length-map bs (λ (b : SinkSeatView S). place_of b)

  pub stands_made : {hosted : HostedView S} {limit many : ℕ} (bs cs : List (SinkSeatView S)) → Stands hosted limit many bs
      → places_of cs ≡ places_of bs → Stands hosted limit many cs
  stands_made {limit} bs cs stands same = record {
    lanes = place_lanes bs cs same ∙ stands.lanes;
    alone = still_alone bs cs same stands.alone;
    limits = subst (λ (ps : List (Place S)). AreLimited limit ps) (sym same) stands.limits;
    count = many_places bs cs same ∙ stands.count;
  }

  each_limit : (limit : ℕ) (bs cs : List (SinkSeatView S)) → limits_of cs ≡ limits_of bs
      → AllByRecursion (λ (b : SinkSeatView S). b.limit ≡ limit) bs → AllByRecursion (λ (b : SinkSeatView S). b.limit ≡ limit) cs
  each_limit limit [] [] same all = tt
  each_limit limit [] (c ∷ cs) same all = absurd (cc same)
  each_limit limit (b ∷ bs) [] same all = absurd (cc same)
  each_limit limit (b ∷ bs) (c ∷ cs) same all =
      let one : c.limit ≡ b.limit = cc same in
      let rest : limits_of cs ≡ limits_of bs = cc same in
      (one ∙ all.0, each_limit limit bs cs rest all.1)

  module _ {hosted : HostedView S} {pass : PassView Item block_note} {losses : book.SeatView} {places : List (SinkSeatView S)}
      {backtraces : List BacktraceSeatView} {made hired most limit : ℕ}
      (host : IsHost hosted pass losses places backtraces made hired most limit) where
    -- where just as many came back as were made, all parts did
    all_came : (j l : Known Item block_note) (ps : List ProducerView) (ws : List (WorkerView S)) → HasBack pass.known j (map pass_member ps)
        → HasBack j l (map (λ (w : WorkerView S). worker_member w) ws) → (length ps ≡ made) × (length ws ≡ hired) → l.parts ≡ ALL_PARTS
    all_came j l ps ws gather collect all =
        let one = gather.parts in
        let two = collect.parts in
        let first = length-map ps pass_member in
        let second = length-map ws (λ (w : WorkerView S). worker_member w) in
        let before = host.left.pass_parts in
        let many_ps = all.0 in
        let many_ws = all.1 in
        omega (arith, one, two, first, second, before, many_ps, many_ws)

    stands_back : (bs : List (SinkSeatView S)) (ws : List (WorkerView S)) → length ws ≡ hired → AllByRecursion (IsWorkerOf hosted) ws
        → HaveBack places bs (map (λ (w : WorkerView S). w.places) ws) → limits_of bs ≡ limits_of places → Stands hosted limit (length places) bs
    stands_back bs ws many theirs back same =
        let rows : List (List (SinkSeatView S)) = map (λ (w : WorkerView S). w.places) ws in
        let lanes : lanes_of bs ≡ hosted.lanes = rows_lanes places bs rows back ∙ host.lanes in
        record {
          lanes = lanes;
          alone = all_back hired places bs rows back (length-map ws (λ (w : WorkerView S). w.places) ∙ many)
              (rows_even hosted places ws host.lanes theirs) host.left.sink_seat_parts;
          limits = limited limit places bs same host.left.sink_seat_limits;
          count = many_lanes bs hosted.lanes lanes ∙ sym (many_lanes places hosted.lanes host.lanes);
        }

same_hosted : {S : Type 0} {old new : HostedView S} {pass : PassView Item block_note} {losses : book.SeatView} {places : List (SinkSeatView S)}
    {backtraces : List BacktraceSeatView} {made hired most limit : ℕ} → IsHost old pass losses places backtraces made hired most limit
    → old ≡ new → IsHost new pass losses places backtraces made hired most limit
same_hosted {S} {pass} {losses} {places} {backtraces} {made} {hired} {most} {limit} host same =
    subst (λ (h : HostedView S). IsHost h pass losses places backtraces made hired most limit) same host

-- What holds of a host whose producers and workers have come back.
pub record HasCome {S : Type 0} (hosted : HostedView S) (pass : PassView Item block_note) (losses : book.SeatView) (places : List (SinkSeatView S))
    (backtraces : List BacktraceSeatView) (made hired workers limit : ℕ) (l : Known Item block_note) (ps : List ProducerView)
    (ws : List (WorkerView S)) (bs : List (SinkSeatView S)) : Type 0 where
  pub host : IsHost hosted pass losses places backtraces made hired workers limit
  pub theirs : AllByRecursion (IsWorkerOf hosted) ws
  pub all : (length ps ≡ made) × (length ws ≡ hired)
  pub parts : l.parts ≡ ALL_PARTS
  pub back : Stands hosted limit (length places) bs
  pub same : limits_of bs ≡ limits_of places

module _ {S : Type 0} {hosted old args : HostedView S} {pass : PassView Item block_note} {losses : book.SeatView} {places : List (SinkSeatView S)}
    {backtraces : List BacktraceSeatView} {made hired workers limit most : ℕ} {self : HostView S} where
  pub has_come : IsHost old pass losses places backtraces made hired workers limit
      → ◌≡◌ {A = HostView S} (record {
        hosted = old;
        pass = pass;
        losses = losses;
        places = places;
        backtraces = backtraces;
        made = made;
        hired = hired;
        workers = workers;
        limit = limit;
        most = most;
      }) self
      → hosted ≡ args → args ≡ self.hosted → (j l : Known Item block_note) (ps : List ProducerView) (ws : List (WorkerView S))
      → HasBack pass.known j (map pass_member ps) → HasBack j l (map (λ (w : WorkerView S). worker_member w) ws)
      → AllByRecursion (IsWorkerOf args) ws → (length ps ≡ self.made) × (length ws ≡ self.hired) → (bs : List (SinkSeatView S))
      → HaveBack places bs (map (λ (w : WorkerView S). w.places) ws) → limits_of bs ≡ limits_of places
      → HasCome hosted pass losses places backtraces made hired workers limit l ps ws bs
  has_come host seen view of j l ps ws gather collect theirs all bs back same =
      let now = same_hosted host (ap (λ (v : HostView S). v.hosted) seen ∙ sym of ∙ sym view) in
      let many : (length ps ≡ made) × (length ws ≡ hired) =
      subst (λ (v : HostView S). (length ps ≡ v.made) × (length ws ≡ v.hired)) (sym seen) all in
      let ours : AllByRecursion (IsWorkerOf hosted) ws = subst (λ (h : HostedView S). AllByRecursion (IsWorkerOf h) ws) (sym view) theirs in
      record {
        host = now;
        theirs = ours;
        all = many;
        parts = all_came now j l ps ws gather collect many;
        back = stands_back now bs ws many.1 ours back same;
        same = same;
      }

-- and when their faults were given away
pub come_then : {S : Type 0} {hosted : HostedView S} {pass : PassView Item block_note} {losses : book.SeatView} {places : List (SinkSeatView S)}
    {backtraces : List BacktraceSeatView} {made hired workers limit : ℕ} {l : Known Item block_note} {ps : List ProducerView}
    {ws : List (WorkerView S)} (bs cs : List (SinkSeatView S)) (fs : List ℕ)
    → HasCome hosted pass losses places backtraces made hired workers limit l ps ws bs → Each3 GivesFaults bs cs fs
    → Stands hosted limit (length places) cs
come_then {places} {limit} bs cs fs come gave =
    stands_gave bs cs fs come.back (each_limit limit places bs come.same come.host.left.sink_seat_limits) gave

-- workers of this pool that came back
pub have_been : {S : Type 0} (hosted : HostedView S) (ws : List (WorkerView S)) → AllByRecursion (IsWorkerOf hosted) ws
    → AllByRecursion WasWorker ws → AllByRecursion (HasBeen hosted) ws
have_been hosted [] theirs worked = tt
have_been hosted (w ∷ ws) theirs worked = (record { of = theirs.0; was = worked.0 }, have_been hosted ws theirs.1 worked.1)
