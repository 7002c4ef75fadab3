use Rattle.std.proofs.Common.{◌≡◌, ◌≤◌, length, vec_capacity}
use Rattle.std.specs.List.{AllByRecursion}
use Rattle.alog_msg.specs.Block.{IsSmallRoom}
use Rattle.alog_msg.proofs.spare.small_rooms.Given as goal

abbrev pub invariant-loop-made : goal.invariant-loop-made
invariant-loop-made l = record {
  each : AllByRecursion (IsSmallRoom l.limit) l.rooms.items;
  made : length l.rooms.items ≡ l._made;
  within : l._made ≤ l.count;
  room : l.count ≤ vec_capacity l.rooms;
}
