-- A producer's place at a backtrace.
use Rattle.std.specs.Prelude.{◌≡◌, ◌≤◌, ℕ, None, Some}
use Rattle.alog_lane.specs.Calls.{LaneId, SeatView, IsSeatOf}
use Rattle.alog_msg.specs.declared.limits.TheConstants.{TEXT_LIMIT_MIN, TEXT_LIMIT_MAX}
use Rattle.alog_registry.specs.Backtrace.{Room, room_for}
use Rattle.alog_registry.specs.Turn.{scratch_of}
use Rattle.alog_registry.specs.declared.keep.LaneKeeper.{LaneKeeper}
use Rattle.alog_registry.specs.declared.turn.BacktraceItem.{BacktraceItem}
use Rattle.alog_registry.specs.declared.turn.BacktraceReply.{BacktraceReply}
use Rattle.alog_registry.specs.declared.turn.BacktraceScratch.{BacktraceScratch}

-- what is seen of a seat at a backtrace
abbrev pub LaneSeatView : Type 0
LaneSeatView = SeatView Room BacktraceItem BacktraceScratch BacktraceReply

-- What is seen of a place: the backtrace's lane, the seat, and what its turns use.
pub record BacktraceSeatView : Type 0 where
  pub lane : LaneId Room
  pub seat : LaneSeatView
  pub scratch : BacktraceScratch

-- a scratch without a message, and with an empty list of this room
abbrev pub empty_scratch : ℕ → ℕ → BacktraceScratch
empty_scratch most limit = scratch_of None (Some (room_for most limit))

-- The place is one at a backtrace of this room and text limit: the seat is the lane's, and the scratch lends an empty list.
pub record IsBacktraceSeat (most limit : ℕ) (lane : LaneId Room) (seat : LaneSeatView) (scratch : BacktraceScratch) : Type 0 where
  pub seat_is : IsSeatOf lane seat
  pub list : scratch.list ≡ Some (room_for most limit)
  pub room : (lane.first.most ≡ most) × (lane.first.limit ≡ limit)
  pub limits : (TEXT_LIMIT_MIN ≤ limit) × (limit ≤ TEXT_LIMIT_MAX)

-- the keeper lends this place
abbrev pub IsKeeperOf : BacktraceSeatView → LaneKeeper → Type 0
IsKeeperOf v k = (k.lane.now ≡ v.lane) × (k.seat.now ≡ v.seat) × (k.scratch.now ≡ v.scratch)

-- Between these states of a place a keeper that lends it did this.
pub record Keeps (old new : BacktraceSeatView) (call : LaneKeeper → LaneKeeper → Type 0) : Type 0 where
  pub keeper : LaneKeeper
  pub after : LaneKeeper
  pub lent : IsKeeperOf old keeper
  pub left : IsKeeperOf new after
  pub called : call keeper after
