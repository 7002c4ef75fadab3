use Rattle.std.proofs.Common.{◌≤◌, length, vec_capacity}
use Rattle.alog_pool.specs.Places.{IsBacktraceSeatPart}
use Rattle.alog_pool.proofs.SharedSharing.{Sharing}
use Rattle.alog_pool.proofs.pool.share_backtrace_seats.Given as goal

abbrev pub invariant-loop-spare : goal.invariant-loop-spare
invariant-loop-spare l =
    Sharing IsBacktraceSeatPart (length l.yielded) l.fn.backtrace_seats.items l.backtrace_seats.items l.given.items
    × (length l.fn.spares.items ≤ vec_capacity l.given)
