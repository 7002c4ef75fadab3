use Rattle.std.proofs.Common.{◌≡◌, ◌≤◌, ◌+◌, length, vec_capacity}
use Rattle.std.specs.List.{AllByRecursion}
use Rattle.std.specs.Vec.Iter.{into_iter_items, into_iter_len}
use Rattle.alog_msg.specs.Block.{IsSmallRoom}
use Rattle.alog_msg.specs.declared.item.Item.TheVariants.{Stop}
use Rattle.alog_msg.proofs.block.Block.many.Given as goal

abbrev pub invariant-loop-room : goal.invariant-loop-room
invariant-loop-room l = record {
  each : AllByRecursion (λ b. b ≡ record { limit = l.limit; item = Stop }) l.blocks.items;
  rest : AllByRecursion (IsSmallRoom l.limit) (into_iter_items l.room-iterator);
  made : length l.blocks.items + into_iter_len l.room-iterator ≡ l.count;
  room : l.count ≤ vec_capacity l.blocks;
}
