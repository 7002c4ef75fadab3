use Rattle.std.proofs.Common.{◌≤◌, length, vec_capacity}
use Rattle.alog_hosted.specs.Closing.{GivesFaults}
use Rattle.alog_pool.proofs.SharedSharing.{Sharing}
use Rattle.alog_hosted.proofs.disband.take_faults.Given as goal

abbrev pub invariant-loop-number : goal.invariant-loop-number
invariant-loop-number g l = record {
  shared : Sharing GivesFaults l.number l.fn.places.items l.places.items l.faults.items;
  room : length l.fn.places.items ≤ vec_capacity l.faults;
}
