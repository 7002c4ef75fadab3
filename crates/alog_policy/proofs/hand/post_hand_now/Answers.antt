use Rattle.std.proofs.Common.{ap, ◌∙◌}
use Rattle.alog_ring.proofs.SharedCalling.{value_there, of_value, for_value}
use Rattle.alog_policy.specs.Outlet.{PostsNow, left_in}
use Rattle.alog_policy.specs.Progress.{without_waiting}
use Rattle.alog_policy.specs.SwapPort.{SwapDid, SwapPortDid}
use Rattle.alog_policy.proofs.SharedSwapPosts.{hand_left, left_with}
use Rattle.alog_policy.proofs.hand.post_hand_now.Goals as goal

pub returns-clause-post : goal.returns-clause-post
returns-clause-post g c =
    let a = c.args.port.now in
    let o = c.post_at_once-outcome.result in
    let there = value_there a.hand.now c.requires.there.0 in
    let P : g.row.B.Denot → Type 0 =
    λ b. PostsNow (SwapPortDid g.L.Limit.admits) c.args.policy (g.W.Shows.shows b) (tt {0}) _ c.post_at_once-outcome.new.outlet o in
    let posts = of_value P c.take-hand.result there.0 (c.take-hand.ensures.value ∙ there.1) c.post_at_once-outcome.ensures.post in
    let d = posts.done.0 in
    for_value (λ b. PostsNow SwapDid c.args.policy (g.W.Shows.shows b) (tt {0}) a _ o) a.hand.now there.0 there.1
    (record {
      events = posts.events;
      post = posts.post;
      done = record {
        ring = d.ring;
        book = d.book;
        pass_lent = d.pass_lent;
        seat_lent = d.seat_lent;
        hand_lent = d.hand_lent;
        spare_lent = d.spare_lent;
        pace_lent = d.pace_lent;
        pass = d.pass;
        seat = d.seat;
      };
    })

pub returns-clause-hand : goal.returns-clause-hand
returns-clause-hand g c =
    let admits = g.L.Limit.admits in
    let a = c.args.port.now in
    let o = c.post_at_once-outcome.result in
    let there = value_there a.hand.now c.requires.there.0 in
    let P : g.row.B.Denot → Type 0 =
    λ b. PostsNow (SwapPortDid admits) c.args.policy (g.W.Shows.shows b) (tt {0}) _ c.post_at_once-outcome.new.outlet o in
    let posts = of_value P c.take-hand.result there.0 (c.take-hand.ensures.value ∙ there.1) c.post_at_once-outcome.ensures.post in
    left_with (admits a.ring.now.ring.limit) o a.hand.now c.post_at_once-outcome.new.hand _ c.post_at_once-outcome.new.outlet.hand.now _
    c.requires.there.0 (c.post_at_once-outcome.ensures.left ∙ ap (left_in o) c.take-hand.ensures.value) c.put_back.ensures
    (hand_left admits (without_waiting c.args.policy) (g.W.Shows.shows there.0) (tt {0}) _ c.post_at_once-outcome.new.outlet o posts)
