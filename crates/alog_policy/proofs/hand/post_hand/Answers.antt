use Rattle.std.proofs.Common.{subst, sym}
use Rattle.alog_ring.proofs.SharedCalling.{value_there, of_value, for_value}
use Rattle.alog_policy.specs.Outlet.{Posts}
use Rattle.alog_policy.specs.SwapPort.{SwapDid, SwapPortDid}
use Rattle.alog_policy.specs.declared.policy.Policy.{Policy}
use Rattle.alog_policy.specs.declared.policy.Policy.TheVariants.{Block}
use Rattle.alog_policy.proofs.SharedSwapPosts.{hand_left}
use Rattle.alog_policy.proofs.hand.post_hand.Goals as goal

pub returns-in-Block-clause-post : goal.returns-in-Block-clause-post
returns-in-Block-clause-post g c =
    let a = c.args.port.now in
    let b = c.post_hand_blocking.new.port in
    let o = c.post_hand_blocking.result in
    let there = value_there a.hand.now c.requires.there.0 in
    let P : g.row.B.Denot → Type 0 = λ y. Posts (SwapPortDid g.L.Limit.admits) Block (g.W.Shows.shows y) (tt {0}) a b o in
    let posts = of_value P a.hand.now there.0 there.1 c.post_hand_blocking.ensures.post in
    for_value (λ y. Posts SwapDid c.args.policy (g.W.Shows.shows y) (tt {0}) a b o) a.hand.now there.0 there.1
    (subst (λ (p : Policy). Posts SwapDid p (g.W.Shows.shows there.0) (tt {0}) a b o) (sym c.in-Block.is)
    (record { events = posts.events; post = posts.post; done = posts.done.0 }))

pub returns-in-Block-clause-hand : goal.returns-in-Block-clause-hand
returns-in-Block-clause-hand g c =
    let a = c.args.port.now in
    let b = c.post_hand_blocking.new.port in
    let o = c.post_hand_blocking.result in
    let there = value_there a.hand.now c.requires.there.0 in
    let P : g.row.B.Denot → Type 0 = λ y. Posts (SwapPortDid g.L.Limit.admits) Block (g.W.Shows.shows y) (tt {0}) a b o in
    hand_left g.L.Limit.admits Block (g.W.Shows.shows there.0) (tt {0}) a b o
    (of_value P a.hand.now there.0 there.1 c.post_hand_blocking.ensures.post)
