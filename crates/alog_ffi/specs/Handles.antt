-- What a handle of C's holds.
use Rattle.alog_ffi.specs.Held.{part_in}
use Rattle.alog_ffi.specs.declared.handle.AlogHandle.{AlogHandle}
use Rattle.alog_ffi.specs.declared.part.Part.{Part}

-- what a handle holds
abbrev pub held : AlogHandle → Part
held h = part_in h.slot.part
