use Rattle.alog_ring.proofs.SharedCalling.{value_there, of_value, for_value}
use Rattle.alog_registry.specs.BlockPort.{IsReadyPort, item_in}
use Rattle.alog_registry.specs.ItemOutlet.{PostsItem}
use Rattle.alog_policy.specs.SwapPort.{SwapDid}
use Rattle.alog_registry.proofs.BlockPosts.{posts_held, stays_there}
use Rattle.alog_registry.proofs.block_port.SwapPortBlockItemContentsTextLimitWaitingItemOutlet.post_waiting.Goals as goal

pub post_hand-outcome-requires : goal.post_hand-outcome-requires
post_hand-outcome-requires g c =
    let told = value_there c.args.hand.now c.requires.there in
    let ready = of_value (λ v. IsReadyPort c.args.self.now) c.args.hand.now told.0 told.1 c.requires.fit in
    record { fit = ready.0; there = ready.1 }

pub returns-clause-post : goal.returns-clause-post
returns-clause-post g c =
    let port = c.args.self.now in
    let new = c.post_hand-outcome.new.port in
    let o = c.post_hand-outcome.result in
    let told = value_there c.args.hand.now c.requires.there in
    let ready = of_value (λ v. IsReadyPort port) c.args.hand.now told.0 told.1 c.requires.fit in
    for_value (λ v. PostsItem SwapDid c.args.policy (item_in port.hand.now) port new o) c.args.hand.now told.0 told.1
    (posts_held c.args.policy port new o ready.1 c.post_hand-outcome.ensures.post)

pub returns-clause-ready : goal.returns-clause-ready
returns-clause-ready g c =
    let port = c.args.self.now in
    let told = value_there c.args.hand.now c.requires.there in
    let ready = of_value (λ v. IsReadyPort port) c.args.hand.now told.0 told.1 c.requires.fit in (
      c.post_hand-outcome.ensures.fit,
      stays_there c.args.policy port c.post_hand-outcome.new.port c.post_hand-outcome.result ready.1
          c.post_hand-outcome.ensures.post c.post_hand-outcome.ensures.hand,
    )
