use Rattle.std.proofs.Common.{◌≡◌, Some}
use Rattle.alog_policy.specs.Progress.{work, without_waiting}
use Rattle.alog_policy.proofs.Way.{IsPosting}
use Rattle.alog_policy.proofs.posting.post_at_once.Given as goal

abbrev pub invariant-loop-progress : goal.invariant-loop-progress
invariant-loop-progress g l =
    record {
      hand : l.hand ≡ l.fn.hand;
      posting : (v : g.row.O-Value.Denot) → l.fn.hand ≡ Some v
          → IsPosting g.O.Outlet.did g.O.Outlet.is_fit (without_waiting l.fn.policy) (g.O.Outlet.shows v) (tt {0}) l.fn.outlet l.progress
          l.outlet;
    }

abbrev pub decreases-loop-progress : goal.decreases-loop-progress
decreases-loop-progress g l = work l.progress
