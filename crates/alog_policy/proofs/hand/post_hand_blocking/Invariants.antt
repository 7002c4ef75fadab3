use Rattle.std.proofs.Common.{◌≡◌, Some}
use Rattle.alog_policy.specs.Progress.{begun}
use Rattle.alog_policy.specs.SwapPort.{IsThere, IsSwapFit, SwapPortDid}
use Rattle.alog_policy.specs.declared.policy.Policy.TheVariants.{Block}
use Rattle.alog_policy.proofs.Way.{IsPosting}
use Rattle.alog_policy.proofs.hand.post_hand_blocking.Given as goal

abbrev pub invariant-loop : goal.invariant-loop
invariant-loop g l =
    record {
      hand : l.port.hand.now ≡ l.initial.port.hand.now;
      there : IsThere (g.L.Limit.admits l.port.ring.now.ring.limit) l.port.hand.now;
      posting : (b : g.row.B.Denot) → l.initial.port.hand.now ≡ Some b
          → IsPosting (SwapPortDid g.L.Limit.admits) (IsSwapFit g.L.Limit.admits) Block (g.W.Shows.shows b) (tt {0}) l.initial.port
          (begun Block) l.port;
    }
