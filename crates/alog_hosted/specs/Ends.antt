-- The end of a hosted pool: all of its producers and workers came back, and the pool itself made what was owed, and handed out what was left.
use Rattle.std.specs.Prelude.{◌≡◌, ℕ, ◌+◌, ◌-◌, ◌%◌, ◌^◌, Bool, List, [], ◌∷◌, ◌++◌, length, map, min, Vec}
use Rattle.std.specs.List.{AllByRecursion, sum_by}
use Rattle.std.specs.declared.alloc.Global.{Global}
use Rattle.alog_core.specs.Accounts.{claimed, taken, takes, weigh}
use Rattle.alog_core.specs.History.{left_by}
use Rattle.alog_core.specs.Queue.{last, start}
use Rattle.alog_format.specs.Buffer.{Buffer}
use Rattle.alog_hosted.specs.Host.{HostView}
use Rattle.alog_hosted.specs.Lent.{HostedView}
use Rattle.alog_hosted.specs.Owed.{OwesLast}
use Rattle.alog_hosted.specs.Workers.{IsWorkerOf, WorkerView}
use Rattle.alog_lane.specs.Calls.{LaneId, Closes}
use Rattle.alog_lane.specs.Seats as lane
use Rattle.alog_lane.specs.Turns.{Turned}
use Rattle.alog_msg.specs.declared.item.Item.{Item}
use Rattle.alog_msg.specs.declared.item.Item.TheVariants.{Flush}
use Rattle.alog_pool.specs.Accounts.{of_stops, of_work}
use Rattle.alog_pool.specs.Back.{pass_member, seat_member}
use Rattle.alog_pool.specs.Deeds.{Due, HasDone, IsCounted, IsOwnFlush, all_dues, dues_on, faults_in}
use Rattle.alog_pool.specs.Producer.{ProducerView}
use Rattle.alog_pool.specs.Report.{MadeAll, gave_up, put_in, took_out}
use Rattle.alog_pool.specs.Rows.{heads, tails}
use Rattle.alog_pool.specs.SinkSeat.{Answer, SinkSeatView, Serves}
use Rattle.alog_pool.specs.Working.{IsWorkOf}
use Rattle.alog_pool.specs.declared.report.Report.{Report}
use Rattle.alog_pool.specs.declared.report.Totals.{Totals}
use Rattle.alog_registry.specs.BlockPort.{block_note}
use Rattle.alog_ring.specs.Known.{Known, Member}
use Rattle.alog_ring.specs.Share.{IsWhole, ticket_and_item}
use Rattle.alog_sink.specs.Files.{Files}
use Rattle.alog_sink.specs.Sinks.{Turns}
use Rattle.alog_sink.specs.declared.sink.Sink.{Sink}

-- what comes back of a worker to the pool's pass
abbrev pub worker_member : {S : Type 0} → WorkerView S → Member Item block_note
worker_member w = record { actor = w.pass.known.actor; own = w.pass.known.own }

-- the texts and flushes that a worker took
abbrev pub handled_by : {S : Type 0} → WorkerView S → ℕ
handled_by w = taken of_work w.pass.known.own

-- what all of these workers owe, one after another
abbrev pub all_owed : {S : Type 0} → List (WorkerView S) → List Due
all_owed [] = []
all_owed (w ∷ ws) = w.owed ++ all_owed ws

-- a seat of one part, into which none was joined
abbrev pub IsOne : {S : Type 0} → SinkSeatView S → Type 0
IsOne b = (b.seat.known.parts ≡ 1) × (b.seat.known.joined ≡ [])

-- What is known of a worker that came back: it put nothing in and counted what it took, its places are of one part each, and counted their faults,
-- and there was made of its dues what it does not owe, which are turns of the item that it took last.
pub record WasWorker {S : Type 0} (w : WorkerView S) : Type 0 where
  pub work : IsWorkOf w.most w.pass.known w.tickets w.handled
  pub ones : AllByRecursion IsOne w.places
  pub counted : AllByRecursion IsCounted w.places
  pub made : List Due
  pub all : all_dues w.shared.loggers (takes w.pass.known.own) ≡ made ++ w.owed
  pub owes : OwesLast w.shared.loggers (takes w.pass.known.own) w.owed
  pub turns : MadeAll 0 w.places made

-- A worker of this pool that came back.
pub record HasBeen {S : Type 0} (hosted : HostedView S) (w : WorkerView S) : Type 0 where
  pub of : IsWorkerOf hosted w
  pub was : WasWorker w

-- Each total is the sum that its name says: over the producers, and of what the workers took and what was left in the queue.
pub record AreAllTotals {S : Type 0} (t : Totals) (producers : List ProducerView) (workers : List (WorkerView S)) (left : List (ℕ × Item))
    : Type 0 where
  pub posted : t.posted ≡ sum_by put_in producers % 2 ^ 64
  pub overrun : t.overrun ≡ sum_by took_out producers % 2 ^ 64
  pub discarded : t.discarded ≡ sum_by gave_up producers % 2 ^ 64
  pub handled : t.handled ≡ (sum_by (λ (w : WorkerView S). handled_by w) workers + weigh of_work left) % 2 ^ 64
  pub asked : t.asked ≡ (t.posted + t.discarded) % 2 ^ 64
  pub balance : t.posted ≡ (t.overrun + t.handled) % 2 ^ 64

-- the producer put in texts and flushes alone
abbrev pub PutNoStop : ProducerView → Type 0
PutNoStop p = claimed of_stops p.pass.known.own ≡ 0

-- By whatever weight: what the producers put in, they took out themselves, or the workers did, or it was left. So each text and each flush that
-- was posted was overrun, or taken by a worker, or handed out by the pool at its end, once.
abbrev pub AllCameOut : {S : Type 0} → List ProducerView → List (WorkerView S) → List (ℕ × Item) → Type 0
AllCameOut {S} producers workers left = (w : ℕ → Item → ℕ)
    → sum_by (λ (p : ProducerView). claimed w p.pass.known.own) producers
    ≡ sum_by (λ (p : ProducerView). taken w p.pass.known.own) producers + (sum_by (λ (h : WorkerView S). taken w h.pass.known.own) workers + weigh w left)

module _ {S : Type 0} (tells : Bool) (files : S → Files) (failures : S → ℕ) where
  -- The place was ended: its sink was flushed once more, and all turns on it led to this one.
  pub record EndsPlace (b : SinkSeatView S) (sink : Sink S) (faults : ℕ) : Type 0 where
    pub after : SinkSeatView S
    pub flushed : Serves tells files failures b last (Flush 0) after
    pub closes : Closes (Turns tells files failures) b.lane.first after.seat.known sink
    pub faults_are : faults ≡ after.faults

  -- The end of a sink: its lane's one history has turns of these places, and of the pool itself those that were due, in their order, and own
  -- flushes, and no others. The last one is such a flush. It led to this sink. The faults are those turns that were answered by one, at most 2^64 - 1.
  pub record IsEnded (at : LaneId (Sink S)) (places : List (SinkSeatView S)) (turns : List (ℕ × Item)) (sink : Sink S) (faults : ℕ) : Type 0 where
    pub end : lane.Known (Turned Item Buffer Answer)
    pub closes : Closes (Turns tells files failures) at.first end sink
    pub own : HasDone end.own turns
    pub members : end.joined ≡ map (λ (b : SinkSeatView S). seat_member b) places
    pub before : List (lane.Entry (Turned Item Buffer Answer))
    pub flush : lane.Entry (Turned Item Buffer Answer)
    pub flushed : (end.seen ≡ before ++ flush ∷ []) × (flush.seat ≡ end.seat) × IsOwnFlush flush.deed
    pub faults_are : faults ≡ min (sum_by (λ (b : SinkSeatView S). faults_in b.seat.known.own) places + faults_in end.own) (2 ^ 64 - 1)

  -- the same at each sink, of which the first has this number, with what stands at its place in these rows of places
  abbrev pub AreEnded : ℕ → List (LaneId (Sink S)) → List (List (SinkSeatView S)) → List Due → List (Sink S) → List ℕ → Type 0
  AreEnded s [] rows dues [] [] = Unit {0}
  AreEnded s (l ∷ ls) rows dues (k ∷ ks) (f ∷ fs) = IsEnded l (heads rows) (dues_on s dues) k f × AreEnded (s + 1) ls (tails rows) dues ks fs
  AreEnded s _ rows dues _ _ = ⊥

  -- The end of a pool with these producers and workers. There is one legal history of its queue, made by them. What it left the pool handed
  -- out in the order of its tickets, behind the turns that the workers owed.
  pub record Disbands (host : HostView S) (producers : List ProducerView) (workers : List (WorkerView S)) (r : Report S) : Type 0 where
    pub all : (length producers ≡ host.made) × (length workers ≡ host.hired)
    pub end : Known Item block_note
    pub whole : IsWhole end
    pub ring : (end.places ≡ host.hosted.shared.ring.ring.places) × (end.first ≡ host.hosted.shared.ring.ring.first)
    pub members : end.joined ≡ map pass_member producers ++ map (λ (w : WorkerView S). worker_member w) workers
    pub own : end.own ≡ []
    pub worked : AllByRecursion (HasBeen host.hosted) workers
    pub left : List (ℕ × Item)
    pub left_are : left ≡ map ticket_and_item (left_by (start end.first) end.seen).cells
    pub no_stops : AllByRecursion PutNoStop producers
    pub out : AllCameOut producers workers left
    pub totals : AreAllTotals r.totals producers workers left
    pub tickets : map (λ (v : Vec ℕ Global). v.items) r.tickets.items ≡ map (λ (w : WorkerView S). w.tickets) workers
    pub sinks : AreEnded 0 host.hosted.lanes (map (λ (w : WorkerView S). w.places) workers)
        (all_owed workers ++ all_dues host.hosted.shared.loggers left) r.sinks.items r.faults.items
