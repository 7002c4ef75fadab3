use Rattle.std.proofs.Common.{sym, subst}
use Rattle.alog_policy.specs.Outlet.{Posts, IsPostedOrSpent}
use Rattle.alog_policy.specs.declared.policy.Outcome.{Outcome}
use Rattle.alog_policy.proofs.Way.{posts_with, posted_or_spent_with, is_left}
use Rattle.alog_policy.proofs.waiting.post_wait.Goals as goal

pub handed_back-requires : goal.handed_back-requires
handed_back-requires g c =
    is_left c.post_from-outcome.result c.args.value c.post_from-outcome.new.hand c.post_from-outcome.ensures.left

pub returns-clause-post : goal.returns-clause-post
returns-clause-post g c =
    let o = g.O.Outlet in
    let v = c.args.value in
    let x = o.shows v in
    let P : Outcome g.row.O-Value.Denot → Type 0 =
    λ r. Posts o.did c.args.policy x v c.args.outlet.now c.post_from-outcome.new.outlet r in
    subst P (sym (c.handed_back.ensures v c.post_from-outcome.ensures.left))
    (posts_with o.did c.args.policy x v c.args.outlet.now c.post_from-outcome.new.outlet c.post_from-outcome.result
    c.post_from-outcome.ensures.post)

pub returns-clause-blocks : goal.returns-clause-blocks
returns-clause-blocks g c is =
    let P : Outcome g.row.O-Value.Denot → Type 0 = λ r. IsPostedOrSpent r in
    subst P (sym (c.handed_back.ensures c.args.value c.post_from-outcome.ensures.left))
    (posted_or_spent_with c.args.value c.post_from-outcome.result (c.post_from-outcome.ensures.blocks is))
