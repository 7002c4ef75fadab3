use Rattle.std.proofs.Common.{◌≡◌, ◌+◌, List, ◌++◌, length, vec_len, vec_capacity}
use Rattle.alog_msg.specs.declared.message.Message.{Message}
use Rattle.alog_policy.specs.Progress.{without_waiting}
use Rattle.alog_registry.specs.Dumping.{PostsEach}
use Rattle.alog_registry.proofs.dumping.post_all.Given as goal

abbrev pub invariant-loop-message : goal.invariant-loop-message
invariant-loop-message g l = record {
  posted : (before : List Message) (s : g.row.O.Denot)
      → PostsEach g.O.ItemOutlet.did (without_waiting l.fn.policy) before s l.fn.outcomes.items l.fn.outlet
      → (gone : List Message) × (l.fn.list.messages ≡ gone ++ l.list.messages)
      × PostsEach g.O.ItemOutlet.did (without_waiting l.fn.policy) (before ++ gone) s l.outcomes.items l.outlet;
  count : vec_len l.outcomes + length l.list.messages ≡ vec_len l.fn.outcomes + length l.fn.list.messages;
  room : vec_capacity l.outcomes ≡ vec_capacity l.fn.outcomes;
  most : l.list.most ≡ l.fn.list.most;
  ready : g.O.ItemOutlet.is_ready l.outlet;
  limit : l.list.limit ≡ l.fn.list.limit;
  admitted : (m : Message) → g.O.ItemOutlet.admits l.fn.outlet m → g.O.ItemOutlet.admits l.outlet m;
}

abbrev pub decreases-loop-message : goal.decreases-loop-message
decreases-loop-message g l = length l.list.messages
