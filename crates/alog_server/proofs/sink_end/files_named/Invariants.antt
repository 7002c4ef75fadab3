use Rattle.std.proofs.Common.{take}
use Rattle.alog_config.specs.Built.{EachIs}
use Rattle.alog_server.specs.SinkEnds.{IsFileOf}
use Rattle.alog_server.proofs.sink_end.files_named.Given as goal

abbrev pub invariant-loop-name : goal.invariant-loop-name
invariant-loop-name l = EachIs (IsFileOf l.sinks) (take l.name-index l.names) l.files
