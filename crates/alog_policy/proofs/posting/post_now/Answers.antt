use Rattle.std.proofs.Common.{sym, subst}
use Rattle.alog_policy.specs.Outlet.{PostsNow}
use Rattle.alog_policy.specs.Progress.{without_waiting}
use Rattle.alog_policy.specs.declared.policy.Outcome.{Outcome}
use Rattle.alog_policy.proofs.Way.{posts_with, is_left}
use Rattle.alog_policy.proofs.posting.post_now.Goals as goal

pub handed_back-requires : goal.handed_back-requires
handed_back-requires g c =
    is_left c.post_at_once-outcome.result c.args.value c.post_at_once-outcome.new.hand c.post_at_once-outcome.ensures.left

pub returns-clause-post : goal.returns-clause-post
returns-clause-post g c =
    let o = g.O.Outlet in
    let v = c.args.value in
    let P : Outcome g.row.O-Value.Denot → Type 0 =
    λ r. PostsNow o.did c.args.policy (o.shows v) v c.args.outlet.now c.post_at_once-outcome.new.outlet r in
    subst P (sym (c.handed_back.ensures v c.post_at_once-outcome.ensures.left))
    (posts_with o.did (without_waiting c.args.policy) (o.shows v) v c.args.outlet.now c.post_at_once-outcome.new.outlet
    c.post_at_once-outcome.result c.post_at_once-outcome.ensures.post)
