use Rattle.std.proofs.Common.{◌≡◌, ◌<◌, ◌≤◌, Option, None, Some, length, set, set-set, sym, ap, subst, ◌∙◌, arith}
use Rattle.alog_core.specs.Run.{GoesOn, entries_of_step}
use Rattle.alog_core.specs.World.{Machine, round_of, stepped, next_move}
use Rattle.alog_core.specs.declared.TheConstants.{ACTORS}
use Rattle.alog_core.specs.declared.said.Said.{Said}
use Rattle.alog_policy.specs.Desk.{DeskView, post_of, Turn, desk_told, desk_stepped, PostGoesOn, said_in_post}
use Rattle.alog_policy.specs.DeskInside.{desk_in}
use Rattle.alog_policy.specs.DeskOutlet.{with_losses}
use Rattle.alog_policy.specs.Runs.{overruns_in, discards_of}
use Rattle.alog_policy.specs.Following.{MayGoOn}
use Rattle.alog_policy.specs.declared.policy.Outcome.{Outcome}
use Rattle.alog_policy.specs.declared.post.Post.{Post}
use Rattle.alog_policy.proofs.Desks.{kept_set}
use Rattle.alog_policy.proofs.Losses.{turn_counts}
use Rattle.alog_policy.proofs.SharedDeskSteps.{post_read, turn_is, turn, may_go_on, kept_after, post_goes_on, stepped_after, told_after}
use Rattle.alog_policy.proofs.SharedDeskSteps.{history_after}
use Rattle.alog_policy.proofs.desk.Desk.step.Goals as goal

pub invariant_of-self-in-None : goal.invariant_of-self-in-None
invariant_of-self-in-None g c =
    let a = c.args.actor in
    let i = c.self.inside in
    let d : DeskView g.row.T.Denot = desk_in i in
    let said = c.in_ok-said.ensures in
    let near : ¬ (ACTORS ≤ a) = λ far. let bad = said.no_actor.1 far in cc in
    let lt : a < ACTORS = omega arith in
    let e : DeskView g.row.T.Denot =
    record { world = c.step.new.self; posts = set i.posts.items a c.take.new.self; counts = i.counts } in
    kept_set {e = e} a (next_move d.world a).round None c.self.invariant lt tt (ap (λ (w : Machine g.row.T.Denot). w.rounds) said.stepped)
    (ap (λ (o : Option (Post g.row.T.Denot)). set i.posts.items a o) c.take.ensures.after)

pub go_on-stepped-requires : goal.go_on-stepped-requires
go_on-stepped-requires g c =
    let a = c.args.actor in
    let i = c.self.inside in
    let d : DeskView g.row.T.Denot = desk_in i in
    let said = c.in_ok-said.ensures in
    let p = c.in-Some.post in
    let near : ¬ (ACTORS ≤ a) = λ far. let bad = said.no_actor.1 far in cc in
    let lt : a < ACTORS = omega arith in
    let in_posts : a < length i.posts.items = omega (arith, lt, c.self.invariant.posts) in
    let there : post_of d a ≡ Some p =
    post_read i.posts.items a in_posts c.index_mut.ensures.value c.take.ensures.value c.in-Some.is in
    subst (λ (m : Machine g.row.T.Denot). MayGoOn m a p c.in_ok-said.said) (sym said.stepped)
    (subst (λ (s : Said g.row.T.Denot). MayGoOn (stepped d.world a) a p s) (sym said.said)
    (may_go_on d a p c.self.invariant lt there said.cell))

pub invariant_of-self-in-Some : goal.invariant_of-self-in-Some
invariant_of-self-in-Some g c =
    let a = c.args.actor in
    let i = c.self.inside in
    let d : DeskView g.row.T.Denot = desk_in i in
    let said = c.in_ok-said.ensures in
    let p = c.in-Some.post in
    let near : ¬ (ACTORS ≤ a) = λ far. let bad = said.no_actor.1 far in cc in
    let lt : a < ACTORS = omega arith in
    let in_posts : a < length i.posts.items = omega (arith, lt, c.self.invariant.posts) in
    let there : post_of d a ≡ Some p =
    post_read i.posts.items a in_posts c.index_mut.ensures.value c.take.ensures.value c.in-Some.is in
    let turned = turn_is a p i.counts said.stepped said.said in
    let went = c.go_on-stepped.ensures in
    let world = went.world ∙ ap (λ (t : Turn g.row.T.Denot). t.world) turned in
    let after = went.post ∙ ap (λ (t : Turn g.row.T.Denot). t.post) turned in
    let posts : set (set i.posts.items a c.take.new.self) a c.go_on-stepped.result.1
    ≡ set i.posts.items a (turn d a p c.self.invariant lt there said.cell).post =
    set-set i.posts.items a c.take.new.self c.go_on-stepped.result.1
    ∙ ap (λ (o : Option (Post g.row.T.Denot)). set i.posts.items a o) after in
    let e : DeskView g.row.T.Denot =
    record {
      world = c.go_on-stepped.new.world;
      posts = set (set i.posts.items a c.take.new.self) a c.go_on-stepped.result.1;
      counts = c.go_on-stepped.new.counts;
    }
    in
    kept_after d a p c.self.invariant lt there said.cell e world posts

pub returns-in-Some-clause-told : goal.returns-in-Some-clause-told
returns-in-Some-clause-told g c =
    let a = c.args.actor in
    let i = c.self.inside in
    let d : DeskView g.row.T.Denot = desk_in i in
    let said = c.in_ok-said.ensures in
    let p = c.in-Some.post in
    let near : ¬ (ACTORS ≤ a) = λ far. let bad = said.no_actor.1 far in cc in
    let lt : a < ACTORS = omega arith in
    let in_posts : a < length i.posts.items = omega (arith, lt, c.self.invariant.posts) in
    let there : post_of d a ≡ Some p =
    post_read i.posts.items a in_posts c.index_mut.ensures.value c.take.ensures.value c.in-Some.is in
    let turned = turn_is a p i.counts said.stepped said.said in
    let went = c.go_on-stepped.ensures in
    let world = went.world ∙ ap (λ (t : Turn g.row.T.Denot). t.world) turned in
    let after = went.post ∙ ap (λ (t : Turn g.row.T.Denot). t.post) turned in
    let posts : set (set i.posts.items a c.take.new.self) a c.go_on-stepped.result.1
    ≡ set i.posts.items a (turn d a p c.self.invariant lt there said.cell).post =
    set-set i.posts.items a c.take.new.self c.go_on-stepped.result.1
    ∙ ap (λ (o : Option (Post g.row.T.Denot)). set i.posts.items a o) after in
    let e : DeskView g.row.T.Denot =
    record {
      world = c.go_on-stepped.new.world;
      posts = set (set i.posts.items a c.take.new.self) a c.go_on-stepped.result.1;
      counts = c.go_on-stepped.new.counts;
    }
    in
    told_after d a p c.self.invariant lt there said.cell c.go_on-stepped.result.0
    (went.said ∙ ap said_in_post said.said) (went.outcome ∙ ap (λ (t : Turn g.row.T.Denot). t.outcome) turned)
    ∙ ap (λ (k : DeskView g.row.T.Denot). desk_told k a) c.self.view_is

pub returns-in-Some-clause-stepped : goal.returns-in-Some-clause-stepped
returns-in-Some-clause-stepped g c =
    let a = c.args.actor in
    let i = c.self.inside in
    let d : DeskView g.row.T.Denot = desk_in i in
    let said = c.in_ok-said.ensures in
    let p = c.in-Some.post in
    let near : ¬ (ACTORS ≤ a) = λ far. let bad = said.no_actor.1 far in cc in
    let lt : a < ACTORS = omega arith in
    let in_posts : a < length i.posts.items = omega (arith, lt, c.self.invariant.posts) in
    let there : post_of d a ≡ Some p =
    post_read i.posts.items a in_posts c.index_mut.ensures.value c.take.ensures.value c.in-Some.is in
    let turned = turn_is a p i.counts said.stepped said.said in
    let went = c.go_on-stepped.ensures in
    let world = went.world ∙ ap (λ (t : Turn g.row.T.Denot). t.world) turned in
    let after = went.post ∙ ap (λ (t : Turn g.row.T.Denot). t.post) turned in
    let posts : set (set i.posts.items a c.take.new.self) a c.go_on-stepped.result.1
    ≡ set i.posts.items a (turn d a p c.self.invariant lt there said.cell).post =
    set-set i.posts.items a c.take.new.self c.go_on-stepped.result.1
    ∙ ap (λ (o : Option (Post g.row.T.Denot)). set i.posts.items a o) after in
    let e : DeskView g.row.T.Denot =
    record {
      world = c.go_on-stepped.new.world;
      posts = set (set i.posts.items a c.take.new.self) a c.go_on-stepped.result.1;
      counts = c.go_on-stepped.new.counts;
    }
    in
    stepped_after d a p c.self.invariant lt there said.cell e world posts
    (went.counts ∙ ap (λ (t : Turn g.row.T.Denot). t.counts) turned)
    ∙ ap (λ (k : DeskView g.row.T.Denot). desk_stepped k a) c.self.view_is

pub returns-in-Some-clause-history : goal.returns-in-Some-clause-history
returns-in-Some-clause-history g c =
    let a = c.args.actor in
    let i = c.self.inside in
    let d : DeskView g.row.T.Denot = desk_in i in
    let said = c.in_ok-said.ensures in
    let p = c.in-Some.post in
    let near : ¬ (ACTORS ≤ a) = λ far. let bad = said.no_actor.1 far in cc in
    let lt : a < ACTORS = omega arith in
    let in_posts : a < length i.posts.items = omega (arith, lt, c.self.invariant.posts) in
    let there : post_of d a ≡ Some p =
    post_read i.posts.items a in_posts c.index_mut.ensures.value c.take.ensures.value c.in-Some.is in
    let turned = turn_is a p i.counts said.stepped said.said in
    let went = c.go_on-stepped.ensures in
    let world = went.world ∙ ap (λ (t : Turn g.row.T.Denot). t.world) turned in
    let after = went.post ∙ ap (λ (t : Turn g.row.T.Denot). t.post) turned in
    let posts : set (set i.posts.items a c.take.new.self) a c.go_on-stepped.result.1
    ≡ set i.posts.items a (turn d a p c.self.invariant lt there said.cell).post =
    set-set i.posts.items a c.take.new.self c.go_on-stepped.result.1
    ∙ ap (λ (o : Option (Post g.row.T.Denot)). set i.posts.items a o) after in
    let e : DeskView g.row.T.Denot =
    record {
      world = c.go_on-stepped.new.world;
      posts = set (set i.posts.items a c.take.new.self) a c.go_on-stepped.result.1;
      counts = c.go_on-stepped.new.counts;
    }
    in
    subst
    (λ (k : DeskView g.row.T.Denot). GoesOn k.world (entries_of_step k.world a) c.go_on-stepped.new.world) c.self.view_is
    (history_after d a p c.self.invariant lt there said.cell c.go_on-stepped.new.world world
    (subst (λ (m : Machine g.row.T.Denot). GoesOn d.world (entries_of_step d.world a) m) said.stepped said.history))

pub returns-in-Some-clause-post : goal.returns-in-Some-clause-post
returns-in-Some-clause-post g c =
    let a = c.args.actor in
    let i = c.self.inside in
    let d : DeskView g.row.T.Denot = desk_in i in
    let said = c.in_ok-said.ensures in
    let p = c.in-Some.post in
    let near : ¬ (ACTORS ≤ a) = λ far. let bad = said.no_actor.1 far in cc in
    let lt : a < ACTORS = omega arith in
    let in_posts : a < length i.posts.items = omega (arith, lt, c.self.invariant.posts) in
    let there : post_of d a ≡ Some p =
    post_read i.posts.items a in_posts c.index_mut.ensures.value c.take.ensures.value c.in-Some.is in
    let turned = turn_is a p i.counts said.stepped said.said in
    let went = c.go_on-stepped.ensures in
    let world = went.world ∙ ap (λ (t : Turn g.row.T.Denot). t.world) turned in
    let after = went.post ∙ ap (λ (t : Turn g.row.T.Denot). t.post) turned in
    let posts : set (set i.posts.items a c.take.new.self) a c.go_on-stepped.result.1
    ≡ set i.posts.items a (turn d a p c.self.invariant lt there said.cell).post =
    set-set i.posts.items a c.take.new.self c.go_on-stepped.result.1
    ∙ ap (λ (o : Option (Post g.row.T.Denot)). set i.posts.items a o) after in
    let e : DeskView g.row.T.Denot =
    record {
      world = c.go_on-stepped.new.world;
      posts = set (set i.posts.items a c.take.new.self) a c.go_on-stepped.result.1;
      counts = c.go_on-stepped.new.counts;
    }
    in
    subst (λ (k : DeskView g.row.T.Denot). PostGoesOn k a c.go_on-stepped.result.0.outcome e) c.self.view_is
    (post_goes_on d a p c.self.invariant lt there said.cell e c.go_on-stepped.result.0.outcome world posts
    (went.outcome ∙ ap (λ (t : Turn g.row.T.Denot). t.outcome) turned))

pub returns-in-Some-clause-counts : goal.returns-in-Some-clause-counts
returns-in-Some-clause-counts g c =
    let a = c.args.actor in
    let i = c.self.inside in
    let d : DeskView g.row.T.Denot = desk_in i in
    let said = c.in_ok-said.ensures in
    let p = c.in-Some.post in
    let near : ¬ (ACTORS ≤ a) = λ far. let bad = said.no_actor.1 far in cc in
    let lt : a < ACTORS = omega arith in
    let in_posts : a < length i.posts.items = omega (arith, lt, c.self.invariant.posts) in
    let there : post_of d a ≡ Some p =
    post_read i.posts.items a in_posts c.index_mut.ensures.value c.take.ensures.value c.in-Some.is in
    let turned = turn_is a p i.counts said.stepped said.said in
    let went = c.go_on-stepped.ensures in
    let world = went.world ∙ ap (λ (t : Turn g.row.T.Denot). t.world) turned in
    let after = went.post ∙ ap (λ (t : Turn g.row.T.Denot). t.post) turned in
    let posts : set (set i.posts.items a c.take.new.self) a c.go_on-stepped.result.1
    ≡ set i.posts.items a (turn d a p c.self.invariant lt there said.cell).post =
    set-set i.posts.items a c.take.new.self c.go_on-stepped.result.1
    ∙ ap (λ (o : Option (Post g.row.T.Denot)). set i.posts.items a o) after in
    let e : DeskView g.row.T.Denot =
    record {
      world = c.go_on-stepped.new.world;
      posts = set (set i.posts.items a c.take.new.self) a c.go_on-stepped.result.1;
      counts = c.go_on-stepped.new.counts;
    }
    in
    let value = (may_go_on d a p c.self.invariant lt there said.cell).value in
    let event = (next_move d.world a).event in
    let counted = turn_counts (stepped d.world a) a p i.counts (round_of d.world a) (next_move d.world a) value in
    let outcome = went.outcome ∙ ap (λ (t : Turn g.row.T.Denot). t.outcome) turned in
    let discards = discards_of c.go_on-stepped.result.0.outcome in
    went.counts
    ∙ (ap (λ (t : Turn g.row.T.Denot). t.counts) turned
    ∙ (counted
    ∙ (ap (λ (o : Option (Outcome g.row.T.Denot)). with_losses i.counts (overruns_in (Some p) event) (discards_of o))
    (sym outcome)
    ∙ (ap (λ (o : Option (Post g.row.T.Denot)). with_losses i.counts (overruns_in o event) discards) (sym there)
    ∙ ap
    (λ (k : DeskView g.row.T.Denot). with_losses k.counts (overruns_in (post_of k a) (next_move k.world a).event) discards)
    c.self.view_is))))
