use Rattle.alog_msg.specs.declared.item.Item.{Item}
use Rattle.alog_registry.specs.ItemOutlet.{PostsItemNow}
use Rattle.std.proofs.Common.{subst}
use Rattle.alog_policy.specs.Progress.{without_waiting}
use Rattle.alog_registry.proofs.Posting.{made_and_posted}
use Rattle.alog_registry.proofs.dumping.post.Goals as goal

pub returns-clause-post : goal.returns-clause-post
returns-clause-post g c =
    let o = g.O.ItemOutlet in
    let old = c.args.outlet.now in
    let new = c.post_now.new.self in
    let q = made_and_posted o.did g.met.O.ItemOutlet.together (without_waiting c.args.policy) (o.shows c.message-value.new.self c.message-value.result) old
    c.message-value.new.self new c.post_now.result c.message-value.ensures.fit.1 c.post_now.ensures.post in
    subst (λ (x : Item). PostsItemNow o.did c.args.policy x old new c.post_now.result) c.message-value.ensures.made q
