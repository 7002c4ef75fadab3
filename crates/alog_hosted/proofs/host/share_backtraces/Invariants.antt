use Rattle.std.proofs.Common.{◌≤◌, length, vec_capacity}
use Rattle.alog_pool.specs.Places.{IsBacktraceSeatPart}
use Rattle.alog_pool.proofs.SharedSharing.{Sharing}
use Rattle.alog_hosted.proofs.host.share_backtraces.Given as goal

abbrev pub invariant-loop-spare : goal.invariant-loop-spare
invariant-loop-spare l =
    Sharing IsBacktraceSeatPart (length l.yielded) l.fn.backtraces.items l.backtraces.items l.given.items
    × (length l.fn.spares.items ≤ vec_capacity l.given)
