-- A pool: what it stands on, and what starting one and making a producer are.
use Rattle.std.specs.Prelude.{◌≡◌, ◌≤◌, ℕ, ◌+◌, List, [], length, map}
use Rattle.std.specs.Arc.{arc_value}
use Rattle.std.specs.List.{AllByRecursion, range_with_len}
use Rattle.alog_lane.specs.Calls.{LaneId}
use Rattle.alog_lane.specs.declared.seat.TheConstants.{ALL_PARTS as ALL_SEATS}
use Rattle.alog_msg.specs.declared.item.Item.{Item}
use Rattle.alog_msg.specs.declared.limits.TheConstants.{TEXT_LIMIT_MIN, TEXT_LIMIT_MAX}
use Rattle.alog_pattern.specs.declared.patterns.TheConstants.{LINE_MAX}
use Rattle.alog_policy.specs.BookCalls as book
use Rattle.alog_pool.specs.SinkSeat.{SinkSeatView}
use Rattle.alog_pool.specs.BacktraceSeat.{BacktraceSeatView}
use Rattle.alog_pool.specs.Gaps.{next_of, told_from, CountsFromFirst}
use Rattle.alog_pool.specs.Producer.{ProducerView, AreBacktraceSeats}
use Rattle.alog_pool.specs.Working.{IsAtWork, IsFresh, numbers_of}
use Rattle.alog_pool.specs.declared.pool_parts.PoolParts.{PoolParts}
use Rattle.alog_pool.specs.declared.worker.Worker.{Worker}
use Rattle.alog_pool.specs.declared.pool.TheConstants.{WORKERS_MAX, PRODUCERS_MAX}
use Rattle.alog_pool.specs.declared.setup.Setup.{Setup}
use Rattle.alog_pool.specs.declared.shared.Shared.{Shared}
use Rattle.alog_registry.specs.BlockPort.{block_note}
use Rattle.alog_ring.specs.Known.{PassView, IsPassOf, RingId, first_known}
use Rattle.alog_ring.specs.Made.{IsFaithful}
use Rattle.alog_ring.specs.declared.TheConstants.{ALL_PARTS}
use Rattle.alog_registry.specs.Backtrace.{Room, room_for}
use Rattle.alog_registry.specs.Limit.{HoldsTo}
use Rattle.alog_registry.specs.declared.limit.TextLimit.{TextLimit}
use Rattle.alog_registry.specs.declared.logger.Logger.{Logger}
use Rattle.alog_sink.specs.Sinks.{Suits}
use Rattle.alog_sink.specs.declared.sink.Sink.{Sink}

-- What is seen of a pool: what all of its threads share, its own pass of the ring, its own seat of the loss book, its own place
-- at each sink and at each backtrace, how many producers it made, the most bytes of a text, how many tickets of each worker it
-- tells, and what its workers began with.
pub record PoolView (S : Type 0) : Type 0 where
  pub shared : Shared
  pub pass : PassView Item block_note
  pub losses : book.SeatView
  pub sink_seats : List (SinkSeatView S)
  pub backtrace_seats : List BacktraceSeatView
  pub made : ℕ
  pub limit : ℕ
  pub most : ℕ
  pub crew : List (Worker S)

-- the lanes of these places
abbrev pub lanes_of : {S : Type 0} → List (SinkSeatView S) → List (LaneId (Sink S))
lanes_of {S} bs = map (λ (b : SinkSeatView S). b.lane) bs

-- and the lanes of these places at backtraces
abbrev pub backtrace_seat_lanes : List BacktraceSeatView → List (LaneId Room)
backtrace_seat_lanes ks = map (λ (k : BacktraceSeatView). k.lane) ks

-- a seat at a sink that made nothing
pub record IsUnused {S : Type 0} (b : SinkSeatView S) : Type 0 where
  pub joined : b.seat.known.joined ≡ []
  pub own : b.seat.known.own ≡ []
  pub faults : b.faults ≡ 0

-- one with one part
abbrev pub IsNew : {S : Type 0} → SinkSeatView S → Type 0
IsNew b = (b.seat.known.parts ≡ 1) × IsUnused b

-- a seat at a backtrace that made nothing
pub record IsIdleSeat (k : BacktraceSeatView) : Type 0 where
  pub joined : k.seat.known.joined ≡ []
  pub own : k.seat.known.own ≡ []

-- Where so many producers were made, and so many workers hired, each of which got one part of all that it uses: the parts that
-- are left, and those, are all. The pool itself made nothing with its own.
pub record HasLeft {S : Type 0} (shared : Shared) (pass : PassView Item block_note) (losses : book.SeatView)
    (sink_seats : List (SinkSeatView S)) (backtrace_seats : List BacktraceSeatView) (made hired limit : ℕ) : Type 0 where
  pub pass_is : IsPassOf shared.ring.ring pass
  pub pass_faithful : IsFaithful pass.known
  pub some_places : 1 ≤ shared.ring.ring.places
  pub pass_parts : pass.known.parts + (made + hired) ≡ ALL_PARTS
  pub losses_are : book.IsSeatOf shared.book losses
  pub losses_parts : losses.known.parts + made ≡ ALL_SEATS
  pub sink_seat_parts : AllByRecursion (λ (b : SinkSeatView S). b.seat.known.parts + hired ≡ ALL_SEATS) sink_seats
  pub sink_seat_limits : AllByRecursion (λ (b : SinkSeatView S). b.limit ≡ limit) sink_seats
  pub backtrace_seat_parts : AllByRecursion (λ (k : BacktraceSeatView). k.seat.known.parts + made ≡ ALL_SEATS) backtrace_seats
  pub each : length backtrace_seats ≡ length shared.loggers
  pub kept : AreBacktraceSeats limit backtrace_seats
  pub queued : shared.ring.ring.limit.most ≡ limit
  pub counts : CountsFromFirst shared
  pub limits : (TEXT_LIMIT_MIN ≤ limit) × (limit ≤ TEXT_LIMIT_MAX)
  pub few : (made ≤ PRODUCERS_MAX) × (hired ≤ WORKERS_MAX)
  pub pass_unused : (pass.known.own ≡ []) × (pass.known.joined ≡ [])
  pub losses_unused : (losses.known.own ≡ []) × (losses.known.joined ≡ [])
  pub sink_seats_unused : AllByRecursion IsUnused sink_seats
  pub backtrace_seats_unused : AllByRecursion IsIdleSeat backtrace_seats

-- A worker of this pool that begins: it shares what all share, has a place at each sink, tells gaps where the pool does, and made nothing.
pub record Begins {S : Type 0} (shared : Shared) (lanes : List (LaneId (Sink S))) (most : ℕ) (h : Worker S) : Type 0 where
  pub at_work : IsAtWork h h
  pub fresh : IsFresh h.pass.known
  pub shares : arc_value h.shared ≡ shared
  pub most_is : h.most ≡ most
  pub gaps_are : next_of h.gaps ≡ shared.gaps
  pub lanes_are : lanes_of h.sink_seats.items ≡ lanes
  pub seats : AllByRecursion IsNew h.sink_seats.items

-- There is a worker, and each began so.
pub record IsPool {S : Type 0} (shared : Shared) (pass : PassView Item block_note) (losses : book.SeatView)
    (sink_seats : List (SinkSeatView S)) (backtrace_seats : List BacktraceSeatView) (made limit most : ℕ) (crew : List (Worker S)) : Type 0 where
  pub left : HasLeft shared pass losses sink_seats backtrace_seats made (length crew) limit
  pub some : 1 ≤ length crew
  pub began : AllByRecursion (Begins shared (lanes_of sink_seats) most) crew

module _ {S : Type 0} where
  -- the text limit is one that a queue may have, and each sink writes any text of it
  pub record Fits (setup : Setup S) : Type 0 where
    pub limits : (TEXT_LIMIT_MIN ≤ setup.text_limit) × (setup.text_limit ≤ TEXT_LIMIT_MAX)
    pub sinks : AllByRecursion (Suits setup.text_limit LINE_MAX) setup.sinks.items

  -- the backtraces of its loggers, empty
  abbrev pub rooms_of : Setup S → List Room
  rooms_of setup = map (λ (l : Logger). room_for l.spec.backtrace setup.text_limit) setup.loggers

  -- it asks for a number of workers that a pool may have
  abbrev pub HasWorkers : Setup S → Type 0
  HasWorkers setup = (1 ≤ setup.workers) × (setup.workers ≤ WORKERS_MAX)

  -- what is left of the parts when so many workers are hired
  abbrev pub Stands : ℕ → PoolParts S → Type 0
  Stands n g = HasLeft (arc_value g.shared) g.pass g.losses g.sink_seats.items g.backtrace_seats.items 0 n g.text_limit

  -- the pass is one of the queue
  abbrev pub HasQueue : PoolParts S → Type 0
  HasQueue g = IsPassOf (arc_value g.shared).ring.ring g.pass × IsFaithful g.pass.known

  -- and its block is one of its queue
  abbrev pub HasBlock : PoolParts S → Type 0
  HasBlock g = HoldsTo (arc_value g.shared).ring.ring.limit g.block

  -- The parts of a pool over this ring: its loggers are those of the setup, and its places are first ones at the sinks, in order.
  pub record AreParts (setup : Setup S) (ring : RingId TextLimit) (g : PoolParts S) : Type 0 where
    pub stands : Stands 0 g
    pub block : HasBlock g
    pub ring_is : (arc_value g.shared).ring.ring ≡ ring
    pub loggers : (arc_value g.shared).loggers ≡ setup.loggers
    pub gaps : (arc_value g.shared).gaps ≡ told_from setup
    pub pass : g.pass.known ≡ first_known ring.places ring.first
    pub sinks : map (λ (l : LaneId (Sink S)). l.first) (lanes_of g.sink_seats.items) ≡ setup.sinks.items
    pub rooms : map (λ (k : BacktraceSeatView). k.lane.first) g.backtrace_seats.items ≡ rooms_of setup
    pub workers : g.workers ≡ setup.workers
    pub most : g.tickets_max ≡ setup.tickets_max
    pub limit : g.text_limit ≡ setup.text_limit

  -- A worker was hired: it begins with a part of all that it uses, and the parts stand without those.
  pub record Hires (n : ℕ) (old new : PoolParts S) (h : Worker S) : Type 0 where
    pub stands : Stands (n + 1) new
    pub shared : arc_value new.shared ≡ arc_value old.shared
    pub lanes : lanes_of new.sink_seats.items ≡ lanes_of old.sink_seats.items
    pub backtrace_seats : new.backtrace_seats.items ≡ old.backtrace_seats.items
    pub kept : (new.tickets_max ≡ old.tickets_max) × (new.text_limit ≡ old.text_limit) × (new.workers ≡ old.workers)
    pub begins : Begins (arc_value old.shared) (lanes_of old.sink_seats.items) old.tickets_max h

  -- All its workers were hired, numbered from 0 on, and the parts stand without theirs.
  pub record Crews (old new : PoolParts S) (crew : List (Worker S)) : Type 0 where
    pub stands : Stands (length crew) new
    pub shared : arc_value new.shared ≡ arc_value old.shared
    pub lanes : lanes_of new.sink_seats.items ≡ lanes_of old.sink_seats.items
    pub backtrace_seats : new.backtrace_seats.items ≡ old.backtrace_seats.items
    pub kept : (new.tickets_max ≡ old.tickets_max) × (new.text_limit ≡ old.text_limit) × (new.workers ≡ old.workers)
    pub began : AllByRecursion (Begins (arc_value old.shared) (lanes_of old.sink_seats.items) old.tickets_max) crew
    pub all : length crew ≡ old.workers
    pub numbers : numbers_of crew ≡ range_with_len 0 old.workers

  -- The pool stands on these parts, with as many workers as it wants, numbered from 0 on, and made no producer.
  pub record Staffs (g : PoolParts S) (p : PoolView S) : Type 0 where
    pub shared : p.shared ≡ arc_value g.shared
    pub lanes : lanes_of p.sink_seats ≡ lanes_of g.sink_seats.items
    pub backtrace_seats : p.backtrace_seats ≡ g.backtrace_seats.items
    pub made : p.made ≡ 0
    pub limit : p.limit ≡ g.text_limit
    pub most : p.most ≡ g.tickets_max
    pub crew : length p.crew ≡ g.workers
    pub numbers : numbers_of p.crew ≡ range_with_len 0 g.workers

  -- A pool of this setup: its queue is as large and begins at the ticket that were asked for, its loggers and its sinks are those that
  -- it was given, in their order, as many workers work for it, numbered from 0 on, of which one alone tells gaps where it is to, and it made
  -- no producer.
  pub record Starts (setup : Setup S) (p : PoolView S) : Type 0 where
    pub queue : (p.shared.ring.ring.places ≡ setup.queue) × (p.shared.ring.ring.first ≡ setup.first)
    pub loggers : p.shared.loggers ≡ setup.loggers
    pub gaps : p.shared.gaps ≡ told_from setup
    pub sinks : map (λ (l : LaneId (Sink S)). l.first) (lanes_of p.sink_seats) ≡ setup.sinks.items
    pub rooms : map (λ (k : BacktraceSeatView). k.lane.first) p.backtrace_seats ≡ rooms_of setup
    pub made : p.made ≡ 0
    pub limit : p.limit ≡ setup.text_limit
    pub most : p.most ≡ setup.tickets_max
    pub crew : length p.crew ≡ setup.workers
    pub numbers : numbers_of p.crew ≡ range_with_len 0 setup.workers

  -- A producer was made: it is of this pool, has the next number, and made nothing.
  pub record Makes (old new : PoolView S) (p : ProducerView) : Type 0 where
    pub shared : p.shared ≡ old.shared
    pub number : p.number ≡ old.made
    pub limit : p.limit ≡ old.limit
    pub entries : (p.pass.known.own ≡ []) × (p.losses.known.own ≡ [])
    pub made : new.made ≡ old.made + 1
    pub same : (new.shared ≡ old.shared) × (new.limit ≡ old.limit) × (new.most ≡ old.most) × (new.crew ≡ old.crew)
    pub lanes : lanes_of new.sink_seats ≡ lanes_of old.sink_seats
    pub kept : (backtrace_seat_lanes p.backtrace_seats ≡ backtrace_seat_lanes old.backtrace_seats) × (backtrace_seat_lanes new.backtrace_seats ≡ backtrace_seat_lanes old.backtrace_seats)
