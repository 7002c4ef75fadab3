use Rattle.std.proofs.Common.{◌≡◌, drop}
use Rattle.alog_outbox.specs.Calls.{found_in}
use Rattle.alog_outbox.proofs.found.size_of.Given as goal

abbrev pub invariant-loop-file : goal.invariant-loop-file
invariant-loop-file l = found_in l.found l.name ≡ found_in (drop l.file-index l.found) l.name
