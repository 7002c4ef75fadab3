use Rattle.std.proofs.Common.{take}
use Rattle.alog_pool.proofs.SharedSharing.{Sharing}
use Rattle.alog_server.specs.SinkEnds.{IsWithFaults}
use Rattle.alog_server.proofs.sink_end.with_faults.Given as goal

abbrev pub invariant-loop-number : goal.invariant-loop-number
invariant-loop-number l = Sharing IsWithFaults l.number l.fn.ends.items l.ends.items (take l.number l.faults)
