use Rattle.std.proofs.Common.{◌≡◌, Some}
use Rattle.alog_policy.specs.Progress.{begun}
use Rattle.alog_policy.specs.declared.policy.Policy.TheVariants.{Block}
use Rattle.alog_policy.proofs.Way.{IsPosting}
use Rattle.alog_policy.proofs.waiting.post_blocking.Given as goal

abbrev pub invariant-loop : goal.invariant-loop
invariant-loop g l =
    record {
      hand : l.hand ≡ l.initial.hand;
      posting : (v : g.row.O-Value.Denot) → l.initial.hand ≡ Some v
          → IsPosting g.O.Outlet.did g.O.Outlet.is_fit Block (g.O.Outlet.shows v) (tt {0}) l.initial.outlet (begun Block) l.outlet;
    }
