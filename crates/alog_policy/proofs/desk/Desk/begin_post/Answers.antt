use Rattle.std.proofs.Common.{◌≡◌, Option, None, Some, set, refl, ap}
use Rattle.alog_policy.specs.Desk.{DeskView}
use Rattle.alog_policy.specs.DeskInside.{desk_in}
use Rattle.alog_policy.specs.Progress.{begun}
use Rattle.alog_policy.specs.declared.post.Post.{Post}
use Rattle.alog_policy.specs.declared.progress.Progress.{Progress}
use Rattle.alog_policy.proofs.SharedDeskSteps.{post_begins}
use Rattle.alog_policy.proofs.desk.Desk.begin_post.Goals as goal

pub invariant_of-self-2 : goal.invariant_of-self-2
invariant_of-self-2 g c =
    let d : DeskView g.row.T.Denot = desk_in c.self.inside in
    let post : Post g.row.T.Denot = record { progress = c.new.result; hand = None } in
    let e : DeskView g.row.T.Denot =
    record {
      world = c.begin_push.new.self;
      posts = set c.self.inside.posts.items c.args.actor (Some post);
      counts = c.self.inside.counts;
    }
    in
    let same : Some post ≡ Some (record { progress = begun c.args.policy; hand = None }) =
    ap (λ (h : Progress). Some (let q : Post g.row.T.Denot = record { progress = h; hand = None } in q)) c.new.ensures in
    let both = post_begins {e = e} {a = c.args.actor} {p = c.args.policy} {x = c.args.value} c.self.invariant
    (c.in_ok-begin_push.ensures.begins.0 refl).0 c.in_ok-begin_push.ensures.began
    (ap (λ (o : Option (Post g.row.T.Denot)). set c.self.inside.posts.items c.args.actor o) same) in
    both.0

pub returns-clause-post : goal.returns-clause-post
returns-clause-post g c =
    let d : DeskView g.row.T.Denot = desk_in c.self.inside in
    let post : Post g.row.T.Denot = record { progress = c.new.result; hand = None } in
    let e : DeskView g.row.T.Denot =
    record {
      world = c.begin_push.new.self;
      posts = set c.self.inside.posts.items c.args.actor (Some post);
      counts = c.self.inside.counts;
    }
    in
    let same : Some post ≡ Some (record { progress = begun c.args.policy; hand = None }) =
    ap (λ (h : Progress). Some (let q : Post g.row.T.Denot = record { progress = h; hand = None } in q)) c.new.ensures in
    let both = post_begins {e = e} {a = c.args.actor} {p = c.args.policy} {x = c.args.value} c.self.invariant
    (c.in_ok-begin_push.ensures.begins.0 refl).0 c.in_ok-begin_push.ensures.began
    (ap (λ (o : Option (Post g.row.T.Denot)). set c.self.inside.posts.items c.args.actor o) same) in
    both.1
