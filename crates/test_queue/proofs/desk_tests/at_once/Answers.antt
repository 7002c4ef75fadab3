-- A post on an outlet, told of the desk that was lent.
use Rattle.std.proofs.Common.{◌≡◌, ℕ, sym, subst, ◌∙◌}
use Rattle.alog_policy.specs.Desk.{DeskView}
use Rattle.alog_policy.specs.DeskOutlet.{DeskDid}
use Rattle.alog_policy.specs.Outlet.{PostsNow}
use Rattle.alog_policy.specs.Post.{overran_in, discards_in}
use Rattle.alog_policy.specs.declared.desk_outlet.DeskOutlet.{DeskOutlet}
use Rattle.alog_policy.specs.declared.policy.Outcome.{Outcome}
use Rattle.alog_policy.specs.declared.policy.Policy.{Policy}
use Rattle.test_queue.proofs.desk_tests.at_once.Goals as goal

outlet_posts : (a v : ℕ) (p : Policy) (out : Outcome ℕ) (o q : DeskOutlet ℕ) (d e : DeskView ℕ)
    → PostsNow
    (λ (u : DeskOutlet ℕ) es k l w.
    (w.actor ≡ u.actor) × (w.desk.ghost_name ≡ u.desk.ghost_name) × DeskDid u.actor u.desk.now es k l w.desk.now)
    p v v o q out
    → o.desk.now ≡ d → o.actor ≡ a → q.desk.now ≡ e → PostsNow (DeskDid a) p v v d e out
outlet_posts a v p out o q d e posts same actor last =
    let es = posts.events in
    let k = overran_in out in
    let l = discards_in out in
    record {
      events = es;
      post = posts.post;
      done = subst (λ b. DeskDid b d es k l e) actor
          (subst (λ (f : DeskView ℕ). DeskDid o.actor f es k l e) same
          (subst (λ (f : DeskView ℕ). DeskDid o.actor o.desk.now es k l f) last posts.done.2));
    }

pub returns-in-Ok-clause-posted : goal.returns-in-Ok-clause-posted
returns-in-Ok-clause-posted c =
    let lent = c.in-Ok.ensures.desk in
    let post = c.post_now.ensures.post in
    -- the outlet has the loan still
    let last = c.desk-1.given.1 (sym lent.2 ∙ sym post.done.1) in
    outlet_posts c.args.actor c.args.value c.args.policy c.post_now.result c.in-Ok.outlet c.post_now.new.outlet
    c.args.desk.now _ post lent.0 lent.1 (sym last)
