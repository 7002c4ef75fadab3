use Rattle.std.proofs.Common.{◌≡◌, length, vec_capacity}
use Rattle.alog_core.specs.World.{replies_to, after_calls}
use Rattle.alog_core.proofs.world.World.run.Given as goal

abbrev pub invariant-loop-call : goal.invariant-loop-call
invariant-loop-call g l = record {
  answers : l.answers.items ≡ replies_to l.fn.self l.yielded;
  room : vec_capacity l.answers ≡ length l.fn.calls.items;
  after : l.self ≡ after_calls l.fn.self l.yielded;
}
