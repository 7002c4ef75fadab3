use Rattle.alog_policy.specs.Progress.{without_waiting}
use Rattle.alog_registry.proofs.BlockPosts.{posts_held, stays_there}
use Rattle.alog_registry.proofs.block_port.SwapPortBlockItemContentsTextLimitItemOutlet.post_now.Goals as goal

pub returns-clause-post : goal.returns-clause-post
returns-clause-post c =
    posts_held (without_waiting c.args.policy) c.args.self.now c.post_hand_now.new.port c.post_hand_now.result c.requires.1
    c.post_hand_now.ensures.post

pub returns-clause-ready : goal.returns-clause-ready
returns-clause-ready c = (
  c.post_hand_now.ensures.fit,
  stays_there (without_waiting c.args.policy) c.args.self.now c.post_hand_now.new.port c.post_hand_now.result c.requires.1
      c.post_hand_now.ensures.post c.post_hand_now.ensures.hand,
)
