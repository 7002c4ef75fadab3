-- What a fault of a layer below is for a line.
use Rattle.alog_core.specs.declared.error.WorldError.{WorldError}
use Rattle.alog_core.specs.declared.error.WorldError.TheVariants as world
use Rattle.alog_msg.specs.declared.message.MessageError.{MessageError}
use Rattle.alog_msg.specs.declared.message.MessageError.TheVariants as message
use Rattle.alog_system.specs.declared.error.BeginError.{BeginError}
use Rattle.alog_system.specs.declared.error.BeginError.TheVariants as begin
use Rattle.alog_replay.specs.declared.error.LineError.{LineError}
use Rattle.alog_replay.specs.declared.error.LineError.TheVariants.{Refused, OutOfMemory}

abbrev pub line_fault_of : WorldError → LineError
line_fault_of world.BadSize = Refused
line_fault_of world.BadFirst = Refused
line_fault_of world.OutOfMemory = OutOfMemory

abbrev pub line_fault_of_message : MessageError → LineError
line_fault_of_message message.TextTooLong = Refused
line_fault_of_message message.FieldTooLong = Refused
line_fault_of_message message.OutOfMemory = OutOfMemory

abbrev pub line_fault_of_begin : BeginError → LineError
line_fault_of_begin begin.NoActor = Refused
line_fault_of_begin begin.InCall = Refused
line_fault_of_begin begin.TextTooLong = Refused
line_fault_of_begin begin.OutOfMemory = OutOfMemory
