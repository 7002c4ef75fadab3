use Rattle.std.proofs.Common.{◌≡◌, length}
use Rattle.alog_ffi.specs.Files.{AreLeft}
use Rattle.alog_ffi.proofs.files.take_from.Given as goal

abbrev pub invariant-loop-number : goal.invariant-loop-number
invariant-loop-number l = AreLeft l.initial.drains.items l.drains.items × (l.to ≡ l.initial.to) × (l.length ≡ 0)
    × (length l.drains.items ≡ length l.initial.drains.items)
