-- What a pool answers at its end.
use Rattle.std.specs.Prelude.{◌≡◌, ◌<◌, ℕ, ◌+◌, ◌-◌, ◌%◌, ◌^◌, Bool, List, [], ◌∷◌, ◌++◌, length, map, min, Vec}
use Rattle.std.specs.List.{AllByRecursion, sum_by}
use Rattle.std.specs.declared.alloc.Global.{Global}
use Rattle.alog_core.specs.Accounts.{claims, takes, claimed, taken, handed_out}
use Rattle.alog_format.specs.Buffer.{Buffer}
use Rattle.alog_lane.specs.Calls.{LaneId, Closes}
use Rattle.alog_lane.specs.Seats as lane
use Rattle.alog_lane.specs.Turns.{Turned}
use Rattle.alog_msg.specs.declared.item.Item.{Item}
use Rattle.alog_msg.specs.declared.item.Item.TheVariants.{Stop}
use Rattle.alog_policy.specs.BookAdds.{posts_in}
use Rattle.alog_policy.specs.declared.counts.Counts.{Counts}
use Rattle.alog_pool.specs.Accounts.{of_all, of_work}
use Rattle.alog_pool.specs.Back.{worker_member, pass_member, seat_member}
use Rattle.alog_pool.specs.SinkSeat.{Answer, AreFlushed, SinkSeatView}
use Rattle.alog_pool.specs.Deeds.{Due, HasDone, all_dues, dues_on, faults_in}
use Rattle.alog_pool.specs.Ending.{IsEnd}
use Rattle.alog_pool.specs.Gaps.{with_gaps, CountsFromFirst}
use Rattle.alog_pool.specs.Pool.{PoolView, lanes_of}
use Rattle.alog_pool.specs.Producer.{ProducerView}
use Rattle.alog_pool.specs.Rows.{heads, tails}
use Rattle.alog_pool.specs.Stops.{AreEnough, AreStops}
use Rattle.alog_pool.specs.Working.{HasEnded, IsWorkOf, numbers_of}
use Rattle.alog_pool.specs.declared.worker.Worker.{Worker}
use Rattle.alog_pool.specs.declared.report.Report.{Report}
use Rattle.alog_pool.specs.declared.report.Totals.{Totals}
use Rattle.alog_pool.specs.declared.shared.Shared.{Shared}
use Rattle.alog_registry.specs.BlockPort.{block_note}
use Rattle.alog_ring.specs.Known.{Known}
use Rattle.alog_ring.specs.Share.{IsWhole}
use Rattle.alog_sink.specs.Files.{Files}
use Rattle.alog_sink.specs.Sinks.{Turns}
use Rattle.alog_sink.specs.declared.sink.Sink.{Sink}

-- The totals of these losses, and of so many texts and flushes that were handled.
pub record AreSums (lost : Counts) (handled : ℕ) (t : Totals) : Type 0 where
  pub overrun : t.overrun ≡ lost.overrun
  pub discarded : t.discarded ≡ lost.discarded
  pub handled_is : t.handled ≡ handled
  pub posted : t.posted ≡ (lost.overrun + handled) % 2 ^ 64
  pub asked : t.asked ≡ (t.posted + lost.discarded) % 2 ^ 64

-- what a producer put in of texts and flushes, and took out, and the posts that it gave up
abbrev pub put_in : ProducerView → ℕ
put_in p = claimed of_work p.pass.known.own

abbrev pub took_out : ProducerView → ℕ
took_out p = taken of_all p.pass.known.own

abbrev pub gave_up : ProducerView → ℕ
gave_up p = posts_in p.losses.known.own

-- the texts and flushes that a worker took
abbrev pub handled_by : {S : Type 0} → Worker S → ℕ
handled_by h = taken of_work h.pass.known.own

-- Each total is the sum over the producers, or over the workers, that its name says.
pub record AreTotals {S : Type 0} (t : Totals) (producers : List ProducerView) (crew : List (Worker S)) : Type 0 where
  pub posted : t.posted ≡ sum_by put_in producers % 2 ^ 64
  pub overrun : t.overrun ≡ sum_by took_out producers % 2 ^ 64
  pub discarded : t.discarded ≡ sum_by gave_up producers % 2 ^ 64
  pub handled : t.handled ≡ sum_by (λ (h : Worker S). handled_by h) crew % 2 ^ 64
  pub asked : t.asked ≡ (t.posted + t.discarded) % 2 ^ 64
  pub balance : t.posted ≡ (t.overrun + t.handled) % 2 ^ 64

-- at each place of a worker, of which the first is that at the sink of this number, the seat made exactly the turns that are due there,
-- and own flushes
abbrev pub MadeAll : {S : Type 0} → ℕ → List (SinkSeatView S) → List Due → Type 0
MadeAll s [] dues = Unit {0}
MadeAll s (b ∷ bs) dues = HasDone b.seat.known.own (dues_on s dues) × MadeAll (s + 1) bs dues

-- each ticket is below each later one
abbrev pub IsRising : List ℕ → Type 0
IsRising [] = Unit {0}
IsRising (t ∷ ts) = AllByRecursion (λ (u : ℕ). t < u) ts × IsRising ts

-- A worker that ended: the tickets that it took rise, and it recorded those of its first texts and flushes, at most so many. It
-- ended at its first stop or where no ticket was left, and at each sink it made exactly the turns that were due there for what it
-- took and told of gaps, in that order, and own flushes, one of them or one that was due behind each line that it wrote.
pub record HasServed {S : Type 0} (shared : Shared) (lanes : List (LaneId (Sink S))) (most : ℕ) (h : Worker S) : Type 0 where
  pub work : IsWorkOf most h.pass.known h.tickets.items h.handled
  pub rising : IsRising (handed_out h.pass.known.own)
  pub tickets_rise : IsRising h.tickets.items
  pub ended : HasEnded h.pass.known.own
  pub lanes_are : lanes_of h.sink_seats.items ≡ lanes
  pub turns : MadeAll 0 h.sink_seats.items (all_dues shared.loggers (with_gaps shared.gaps (takes h.pass.known.own)))
  pub flushed : AreFlushed h.sink_seats.items

-- By whatever weight that gives nothing to stops: what the producers put in, they took out themselves, or the workers did. So each
-- text and each flush that was posted was overrun or handled, once.
abbrev pub AllCameOut : {S : Type 0} → List ProducerView → List (Worker S) → Type 0
AllCameOut {S} producers crew = (w : ℕ → Item → ℕ) → ((t : ℕ) → w t Stop ≡ 0)
    → sum_by (λ (p : ProducerView). claimed w p.pass.known.own) producers
    ≡ sum_by (λ (p : ProducerView). taken w p.pass.known.own) producers + sum_by (λ (h : Worker S). taken w h.pass.known.own) crew

module _ {S : Type 0} (tells : Bool) (files : S → Files) (failures : S → ℕ) where
  -- The end of a sink: its lane's one history has turns of these places and no others, and led to this sink. The faults are those
  -- turns that were answered by one, at most 2^64 - 1.
  pub record IsClosed (at : LaneId (Sink S)) (places : List (SinkSeatView S)) (sink : Sink S) (faults : ℕ) : Type 0 where
    pub end : lane.Known (Turned Item Buffer Answer)
    pub closes : Closes (Turns tells files failures) at.first end sink
    pub own : end.own ≡ []
    pub members : end.joined ≡ map (λ (b : SinkSeatView S). seat_member b) places
    pub faults_are : faults ≡ min (sum_by (λ (b : SinkSeatView S). faults_in b.seat.known.own) places) (2 ^ 64 - 1)

  -- the same at each sink, with what stands at its place in these rows of places
  abbrev pub AreClosed : List (LaneId (Sink S)) → List (List (SinkSeatView S)) → List (Sink S) → List ℕ → Type 0
  AreClosed [] rows [] [] = Unit {0}
  AreClosed (l ∷ ls) rows (s ∷ ss) (f ∷ fs) = IsClosed l (heads rows) s f × AreClosed ls (tails rows) ss fs
  AreClosed _ rows _ _ = ⊥

  -- The end of a pool with these producers. There is one legal history of its queue, made by the producers, the workers, and the
  -- pool itself, which put in nothing but stops, when all producers had come back, one for each worker or as many as there were tickets left.
  pub record Ends (pool : PoolView S) (producers : List ProducerView) (r : Report S) : Type 0 where
    pub crew : List (Worker S)
    pub count : length crew ≡ length pool.crew
    pub numbers : numbers_of crew ≡ numbers_of pool.crew
    pub served : AllByRecursion (HasServed pool.shared (lanes_of pool.sink_seats) pool.most) crew
    pub end : Known Item block_note
    pub whole : IsWhole end
    pub moment : IsEnd end
    pub counts : CountsFromFirst pool.shared
    pub ring : (end.places ≡ pool.shared.ring.ring.places) × (end.first ≡ pool.shared.ring.ring.first)
    pub members : end.joined ≡ map pass_member producers ++ map (λ (h : Worker S). worker_member h) crew
    pub stops : AreStops (claims end.own) × AreEnough (length pool.crew) (claims end.own) end.own
    pub took_none : takes end.own ≡ []
    pub out : AllCameOut producers crew
    pub totals : AreTotals r.totals producers crew
    pub tickets : map (λ (v : Vec ℕ Global). v.items) r.tickets.items ≡ map (λ (h : Worker S). h.tickets.items) crew
    pub sinks : AreClosed (lanes_of pool.sink_seats) (map (λ (h : Worker S). h.sink_seats.items) crew) r.sinks.items r.faults.items
