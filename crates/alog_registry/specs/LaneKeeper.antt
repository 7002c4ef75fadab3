-- A keeper that takes turns at a backtrace under a lock.
use Rattle.std.specs.Prelude.{◌≡◌, ◌≢◌, ℕ, None, Some}
use Rattle.alog_lane.specs.Calls.{IsSeatOf, TakesTurn}
use Rattle.alog_lane.specs.Turns.{Turned}
use Rattle.alog_lane.specs.declared.seat.TheConstants.{ALL_PARTS}
use Rattle.alog_msg.specs.declared.message.Message.{Message}
use Rattle.alog_registry.specs.Backtrace.{Room, room_for}
use Rattle.alog_registry.specs.Turn.{Turns, scratch_of}
use Rattle.alog_registry.specs.declared.turn.BacktraceItem.{BacktraceItem}
use Rattle.alog_registry.specs.declared.turn.BacktraceItem.TheVariants.{Keep, Dump}
use Rattle.alog_registry.specs.declared.turn.BacktraceReply.{BacktraceReply}
use Rattle.alog_registry.specs.declared.turn.BacktraceReply.TheVariants.{Dumped}
use Rattle.alog_registry.specs.declared.turn.BacktraceScratch.{BacktraceScratch}
use Rattle.alog_registry.specs.declared.keep.LaneKeeper.{LaneKeeper}

-- the seat belongs to the lane
abbrev pub IsSeated : LaneKeeper → Type 0
IsSeated k = IsSeatOf k.lane.now k.seat.now

-- both lend the same lane, seat and scratch
pub record LendsSame (old new : LaneKeeper) : Type 0 where
  pub lane : new.lane ≡ old.lane
  pub seat : new.seat.ghost_name ≡ old.seat.ghost_name
  pub scratch : new.scratch.ghost_name ≡ old.scratch.ghost_name

-- The keeper kept the message: by a turn of its seat, of tag 0, which is the next of the lane's history. Beside the message the
-- scratch had its list, and has it still.
pub record KeepsByTurn (old : LaneKeeper) (m : Message) (new : LaneKeeper) : Type 0 where
  pub lends : LendsSame old new
  pub deed : Turned BacktraceItem BacktraceScratch BacktraceReply
  pub tag : deed.tag ≡ 0
  pub item : deed.item ≡ Keep
  pub before : deed.before ≡ scratch_of (Some m) old.scratch.now.list
  pub after : new.scratch.now ≡ deed.after
  pub index : ℕ
  pub turn : TakesTurn Turns old.lane.now.first old.seat.now.known new.seat.now.known deed index
  pub list : new.scratch.now.list ≡ old.scratch.now.list

-- The keeper kept nothing: no turn was made. That may be only where the lane has other seats.
pub record Passes (old new : LaneKeeper) : Type 0 where
  pub lends : LendsSame old new
  pub parted : old.seat.now.known.parts ≢ ALL_PARTS
  pub seat : new.seat.now ≡ old.seat.now
  pub message : new.scratch.now.message ≡ None
  pub list : new.scratch.now.list ≡ old.scratch.now.list

-- A keeper that waits for the lock keeps every message.
abbrev pub NeverPasses : LaneKeeper → LaneKeeper → Type 0
NeverPasses old new = ⊥

-- an empty list with the backtrace's room lies in the scratch
abbrev pub HasList : LaneKeeper → Type 0
HasList k = k.scratch.now.list ≡ Some (room_for k.lane.now.first.most k.lane.now.first.limit)

-- The keeper emptied the backtrace, of which this was kept: by a turn of its seat, of tag 0, which is the next of the lane's
-- history. It began with the scratch as it was, whose message stays.
pub record DumpsByTurn (old : LaneKeeper) (dumped : Room) (new : LaneKeeper) : Type 0 where
  pub lends : LendsSame old new
  pub deed : Turned BacktraceItem BacktraceScratch BacktraceReply
  pub tag : deed.tag ≡ 0
  pub item : deed.item ≡ Dump
  pub before : deed.before ≡ old.scratch.now
  pub reply : deed.reply ≡ Dumped dumped
  pub message : new.scratch.now.message ≡ old.scratch.now.message
  pub index : ℕ
  pub turn : TakesTurn Turns old.lane.now.first old.seat.now.known new.seat.now.known deed index
