use Rattle.std.proofs.Common.{◌≡◌, ◌≤◌, length, vec_capacity}
use Rattle.alog_pool.specs.Places.{IsPart}
use Rattle.alog_pool.proofs.SharedSharing.{Sharing}
use Rattle.alog_hosted.proofs.host.share_places.Given as goal

abbrev pub invariant-loop-number : goal.invariant-loop-number
invariant-loop-number g l = record {
  shared : Sharing IsPart l.number l.fn.places.items l.places.items l.given.items;
  end : l.number-end ≡ length l.fn.places.items;
  room : length l.fn.places.items ≤ vec_capacity l.given;
}
