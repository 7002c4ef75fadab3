use Rattle.std.proofs.Common.{◌≤◌, length, vec_capacity}
use Rattle.alog_pool.specs.Places.{IsSpareOf}
use Rattle.alog_pool.proofs.SharedSharing.{Matching}
use Rattle.alog_pool.proofs.pool.spares_of.Given as goal

abbrev pub invariant-loop-backtrace_seat : goal.invariant-loop-backtrace_seat
invariant-loop-backtrace_seat l = Matching IsSpareOf l.backtrace_seat-index l.backtrace_seats l.spares.items × (length l.backtrace_seats ≤ vec_capacity l.spares)
