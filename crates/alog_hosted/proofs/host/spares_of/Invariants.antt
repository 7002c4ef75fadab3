use Rattle.std.proofs.Common.{◌≤◌, length, vec_capacity}
use Rattle.alog_hosted.specs.Host.{IsSpareFor}
use Rattle.alog_pool.proofs.SharedSharing.{Matching}
use Rattle.alog_hosted.proofs.host.spares_of.Given as goal

abbrev pub invariant-loop-backtrace : goal.invariant-loop-backtrace
invariant-loop-backtrace l = Matching IsSpareFor l.backtrace-index l.backtraces l.spares.items × (length l.backtraces ≤ vec_capacity l.spares)
