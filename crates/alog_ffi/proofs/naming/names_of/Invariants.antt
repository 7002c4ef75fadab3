use Rattle.std.proofs.Common.{◌≡◌, take}
use Rattle.std.specs.List.{flat_map}
use Rattle.alog_ffi.specs.Names.{file_of}
use Rattle.alog_ffi.proofs.naming.names_of.Given as goal

-- the files of the sinks so far
abbrev pub invariant-loop-sink : goal.invariant-loop-sink
invariant-loop-sink l = l.names.items ≡ flat_map file_of (take l.sink-index l.config.sinks.items)
