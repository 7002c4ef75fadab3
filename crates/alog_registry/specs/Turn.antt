-- The turns of a backtrace under a lock: a step relation between the backtrace, the scratch, what the turn is to do, what it
-- answers, and both after it.
use Rattle.std.specs.Prelude.{◌≡◌, Option, None, Some}
use Rattle.alog_msg.specs.declared.message.Message.{Message}
use Rattle.alog_registry.specs.Backtrace.{Room, room_for, kept_with}
use Rattle.alog_registry.specs.Limit.{HasShort}
use Rattle.alog_registry.specs.declared.turn.BacktraceItem.{BacktraceItem}
use Rattle.alog_registry.specs.declared.turn.BacktraceItem.TheVariants.{Keep, Dump}
use Rattle.alog_registry.specs.declared.turn.BacktraceReply.{BacktraceReply}
use Rattle.alog_registry.specs.declared.turn.BacktraceReply.TheVariants.{Kept, Dumped}
use Rattle.alog_registry.specs.declared.turn.BacktraceScratch.{BacktraceScratch}

-- a scratch with this message and this list
abbrev pub scratch_of : Option Message → Option Room → BacktraceScratch
scratch_of m l = record { message = m; list = l }

-- A keep takes the scratch's message, which is kept.
pub record KeepsOne (old : Room) (before : BacktraceScratch) (reply : BacktraceReply) (new : Room) (after : BacktraceScratch) : Type 0 where
  pub message : Message
  pub given : before.message ≡ Some message
  pub kept : new ≡ kept_with old message
  pub after_is : after ≡ scratch_of None before.list
  pub reply_is : reply ≡ Kept

-- A dump replies with what was kept, and leaves the backtrace empty and the scratch without its list.
pub record DumpsAll (old : Room) (before : BacktraceScratch) (reply : BacktraceReply) (new : Room) (after : BacktraceScratch) : Type 0 where
  pub emptied : new ≡ room_for old.most old.limit
  pub after_is : after ≡ scratch_of before.message None
  pub reply_is : reply ≡ Dumped old

abbrev pub Turns : Room → BacktraceScratch → BacktraceItem → BacktraceReply → Room → BacktraceScratch → Type 0
Turns v s Keep r w t = KeepsOne v s r w t
Turns v s Dump r w t = DumpsAll v s r w t

-- what a turn asks of the backtrace, the item and the scratch
abbrev pub MayTurn : Room → BacktraceItem → BacktraceScratch → Type 0
MayTurn v Keep s = HasShort v.limit s.message
MayTurn v Dump s = s.list ≡ Some (room_for v.most v.limit)
