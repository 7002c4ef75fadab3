use Rattle.std.proofs.Common.{All, take}
use Rattle.alog_outbox.specs.Views.{HasAll}
use Rattle.alog_ffi.proofs.files.have_ended.Given as goal

-- the stores of those so far have ended
abbrev pub invariant-loop-drain : goal.invariant-loop-drain
invariant-loop-drain l = All HasAll (take l.drain-index l.drains)
