-- A producer, and its calls: each is one of `Loggers` on what the producer lends.
use Rattle.std.specs.Prelude.{◌≡◌, ◌≤◌, ℕ, List, length, Option, Some, slice_get, slice_set}
use Rattle.std.specs.List.{AllByRecursion}
use Rattle.alog_msg.specs.Block.{BlockFields}
use Rattle.alog_msg.specs.declared.item.Item.{Item}
use Rattle.alog_msg.specs.declared.limits.TheConstants.{TEXT_LIMIT_MIN, TEXT_LIMIT_MAX}
use Rattle.alog_policy.specs.BookCalls.{SeatView, IsSeatOf}
use Rattle.alog_policy.specs.SwapPort.{IsThere}
use Rattle.alog_pool.specs.BacktraceSeat.{BacktraceSeatView, Keeps}
use Rattle.alog_pool.specs.Lending.{IsAccountOf}
use Rattle.alog_pool.specs.declared.shared.Shared.{Shared}
use Rattle.alog_registry.specs.declared.keep.LaneKeeper.{LaneKeeper}
use Rattle.alog_registry.specs.Limit.{HoldsTo}
use Rattle.alog_registry.specs.BlockPort.{BlockPort, block_note}
use Rattle.alog_ring.specs.Known.{PassView, IsPassOf}

-- What is seen of a producer: what it shares with its pool, its pass of the ring, its seat of the loss book, its places at the
-- backtraces of the loggers, by number, its own number, and the most bytes of a text.
pub record ProducerView : Type 0 where
  pub shared : Shared
  pub pass : PassView Item block_note
  pub losses : SeatView
  pub backtrace_seats : List BacktraceSeatView
  pub number : ℕ
  pub limit : ℕ

-- each of these backtraces takes texts of so many bytes
abbrev pub AreBacktraceSeats : ℕ → List BacktraceSeatView → Type 0
AreBacktraceSeats limit backtrace_seats = AllByRecursion (λ (k : BacktraceSeatView). k.lane.first.limit ≡ limit) backtrace_seats

-- The producer is one of the pool that has this: pass and seat belong to its ring and its book, there is a place for each logger,
-- and all have one text limit. What pass and seat did is a producer's account.
pub record IsProducer (shared : Shared) (p : PassView Item block_note) (losses : SeatView) (backtrace_seats : List BacktraceSeatView) (limit : ℕ) : Type 0 where
  pub pass : IsPassOf shared.ring.ring p
  pub losses_are : IsSeatOf shared.book losses
  pub each : length backtrace_seats ≡ length shared.loggers
  pub kept : AreBacktraceSeats limit backtrace_seats
  pub queued : shared.ring.ring.limit.most ≡ limit
  pub limits : (TEXT_LIMIT_MIN ≤ limit) × (limit ≤ TEXT_LIMIT_MAX)
  pub account : IsAccountOf p.known losses.known

-- the producer has a block to write its next message into, and one for a spare
abbrev pub HasBlocks : Shared → Option BlockFields → Option BlockFields → Type 0
HasBlocks shared hand spare = IsThere (HoldsTo shared.ring.ring.limit) hand × IsThere (HoldsTo shared.ring.ring.limit) spare

-- the port lends the pool's ring and book, and the producer's pass and seat
pub record IsPortOf (p : ProducerView) (port : BlockPort) : Type 0 where
  pub ring : port.ring.now ≡ p.shared.ring
  pub book : port.book.now ≡ p.shared.book
  pub pass : port.pass.now ≡ p.pass
  pub losses : port.seat.now ≡ p.losses

-- it is the same producer of the same pool
pub record IsSame (old new : ProducerView) : Type 0 where
  pub shared : new.shared ≡ old.shared
  pub number : new.number ≡ old.number
  pub limit : new.limit ≡ old.limit

-- The call was this one, on a port that the producer lends, and on a keeper that lends its place at the backtrace of the logger of this
-- number. Its places at other backtraces stay as they were.
pub record Lent (old new : ProducerView) (number : ℕ)
    (call : BlockPort → LaneKeeper → BlockPort → LaneKeeper → Type 0) : Type 0 where
  pub port : BlockPort
  pub after : BlockPort
  pub lent : IsPortOf old port
  pub left : IsPortOf new after
  pub place : BacktraceSeatView
  pub place_after : BacktraceSeatView
  pub found : slice_get old.backtrace_seats number ≡ Some place
  pub others : new.backtrace_seats ≡ slice_set old.backtrace_seats number place_after
  pub kept : Keeps place place_after (λ k l. call port k after l)
