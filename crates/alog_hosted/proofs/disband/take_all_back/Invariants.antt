use Rattle.std.proofs.Common.{◌≡◌, length}
use Rattle.alog_pool.specs.Collected.{TakesBack}
use Rattle.alog_pool.proofs.SharedSharing.{Sharing}
use Rattle.alog_hosted.proofs.disband.take_all_back.Given as goal

abbrev pub invariant-loop-place : goal.invariant-loop-place
invariant-loop-place g l =
    Sharing TakesBack (length l.yielded) l.fn.places.items l.places.items l.yielded × (l.number ≡ length l.yielded)
