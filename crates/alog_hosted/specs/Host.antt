-- What the host of a pool keeps, and what it makes of it: producers and workers.
use Rattle.std.specs.Prelude.{◌≡◌, ◌≤◌, ℕ, ◌+◌, List, [], map, None, vec_capacity}
use Rattle.std.specs.List.{AllByRecursion}
use Rattle.alog_hosted.specs.Lent.{HostedView, IsProducerOf}
use Rattle.alog_hosted.specs.Workers.{IsWorkerOf, WorkerView}
use Rattle.alog_hosted.specs.declared.blank.Blank.{Blank}
use Rattle.alog_lane.specs.Calls.{LaneId}
use Rattle.alog_msg.specs.declared.item.Item.{Item}
use Rattle.alog_policy.specs.BookCalls as book
use Rattle.alog_pool.specs.BacktraceSeat.{BacktraceSeatView}
use Rattle.alog_pool.specs.Pool.{HasLeft, IsIdleSeat, IsNew, backtrace_seat_lanes, lanes_of, rooms_of}
use Rattle.alog_pool.specs.Producer.{ProducerView}
use Rattle.alog_pool.specs.SinkSeat.{SinkSeatView}
use Rattle.alog_pool.specs.declared.pool.TheConstants.{WORKERS_MAX}
use Rattle.alog_pool.specs.declared.setup.Setup.{Setup}
use Rattle.alog_registry.specs.Backtrace.{Room}
use Rattle.alog_registry.specs.BlockPort.{block_note}
use Rattle.alog_registry.specs.declared.turn.BacktraceScratch.{BacktraceScratch}
use Rattle.alog_ring.specs.Known.{PassView}
use Rattle.alog_sink.specs.declared.sink.Sink.{Sink}

-- What is seen of a host: the pool that it lends, its own pass of the ring, its own seat of the loss book, its own place at each sink and at
-- each backtrace, how many producers and workers it made, how many workers it may make, the most bytes of a text, and how many tickets a
-- worker notes.
pub record HostView (S : Type 0) : Type 0 where
  pub hosted : HostedView S
  pub pass : PassView Item block_note
  pub losses : book.SeatView
  pub places : List (SinkSeatView S)
  pub backtraces : List BacktraceSeatView
  pub made : ℕ
  pub hired : ℕ
  pub workers : ℕ
  pub limit : ℕ
  pub most : ℕ

-- What is left to it of all parts is known by what it made, and its places are at the lanes of the pool.
pub record IsHost {S : Type 0} (hosted : HostedView S) (pass : PassView Item block_note) (losses : book.SeatView)
    (places : List (SinkSeatView S)) (backtraces : List BacktraceSeatView) (made hired workers limit : ℕ) : Type 0 where
  pub left : HasLeft hosted.shared pass losses places backtraces made hired limit
  pub lanes : lanes_of places ≡ hosted.lanes
  pub backtrace_lanes : backtrace_seat_lanes backtraces ≡ hosted.backtraces
  pub few : (hired ≤ workers) × (workers ≤ WORKERS_MAX)

-- a scratch that has a list of the room that the place's list has
abbrev pub IsSpareFor : BacktraceSeatView → BacktraceScratch → Type 0
IsSpareFor k s = s.list ≡ k.scratch.list

-- Its lists are empty, and have room for so many workers and sinks.
pub record HasRoom {S : Type 0} (workers sinks : ℕ) (blank : Blank S) : Type 0 where
  pub tickets : (blank.tickets.items ≡ []) × (workers ≤ vec_capacity blank.tickets)
  pub halves : (blank.halves.items ≡ []) × (workers ≤ vec_capacity blank.halves)
  pub faults : (blank.faults.items ≡ []) × (sinks ≤ vec_capacity blank.faults)
  pub sinks_are : (blank.sinks.items ≡ []) × (sinks ≤ vec_capacity blank.sinks)

module _ {S : Type 0} where
  -- A pool of this setup was opened: its queue is as large and begins at the ticket that were asked for, its loggers and its sinks are those
  -- that it was given, in their order, it tells no gaps, and its host made no producer and no worker.
  pub record Opens (setup : Setup S) (hosted : HostedView S) (host : HostView S) : Type 0 where
    pub lends : host.hosted ≡ hosted
    pub queue : (hosted.shared.ring.ring.places ≡ setup.queue) × (hosted.shared.ring.ring.first ≡ setup.first)
    pub loggers : hosted.shared.loggers ≡ setup.loggers
    pub gaps : hosted.shared.gaps ≡ None
    pub sinks : map (λ (l : LaneId (Sink S)). l.first) hosted.lanes ≡ setup.sinks.items
    pub rooms : map (λ (l : LaneId Room). l.first) hosted.backtraces ≡ rooms_of setup
    pub none : (host.made ≡ 0) × (host.hired ≡ 0)
    pub workers : host.workers ≡ setup.workers
    pub limit : host.limit ≡ setup.text_limit
    pub most : host.most ≡ setup.tickets_max

  -- the same but for the numbers of producers and of workers
  pub record IsSameHost (old new : HostView S) : Type 0 where
    pub hosted : new.hosted ≡ old.hosted
    pub workers : new.workers ≡ old.workers
    pub limit : new.limit ≡ old.limit
    pub most : new.most ≡ old.most

  -- A producer was made: it is of this pool, has the next number, and put nothing in, lost nothing and kept nothing yet.
  pub record Makes (old new : HostView S) (p : ProducerView) : Type 0 where
    pub of : IsProducerOf old.hosted p
    pub number : p.number ≡ old.made
    pub limit : p.limit ≡ old.limit
    pub entries : (p.pass.known.own ≡ []) × (p.losses.known.own ≡ [])
    pub idle : AllByRecursion IsIdleSeat p.backtrace_seats
    pub made : new.made ≡ old.made + 1
    pub hired : new.hired ≡ old.hired
    pub same : IsSameHost old new

  -- A worker was made: it is of this pool, has the next number, took nothing and made no turn yet.
  pub record Hires (old new : HostView S) (w : WorkerView S) : Type 0 where
    pub of : IsWorkerOf old.hosted w
    pub number : w.number ≡ old.hired
    pub most : w.most ≡ old.most
    pub entries : (w.pass.known.own ≡ []) × (w.half ≡ 0)
    pub places : AllByRecursion IsNew w.places
    pub made : new.made ≡ old.made
    pub hired : new.hired ≡ old.hired + 1
    pub same : IsSameHost old new
