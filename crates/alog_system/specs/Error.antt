-- Which refusal each fault of a call below becomes.
use Rattle.alog_core.specs.declared.error.WorldError.{WorldError}
use Rattle.alog_core.specs.declared.error.WorldError.TheVariants as world
use Rattle.alog_msg.specs.declared.message.MessageError.{MessageError}
use Rattle.alog_msg.specs.declared.message.MessageError.TheVariants as message
use Rattle.alog_system.specs.declared.error.BeginError.{BeginError}
use Rattle.alog_system.specs.declared.error.BeginError.TheVariants as begin
use Rattle.alog_system.specs.declared.error.SystemError.{SystemError}
use Rattle.alog_system.specs.declared.error.SystemError.TheVariants as system

-- a message without a source has no field that is too long
abbrev pub begin_fault_of : MessageError → BeginError
begin_fault_of message.TextTooLong = begin.TextTooLong
begin_fault_of message.FieldTooLong = begin.TextTooLong
begin_fault_of message.OutOfMemory = begin.OutOfMemory

-- the first ticket is 0
abbrev pub system_fault_of : WorldError → SystemError
system_fault_of world.BadSize = system.BadSize
system_fault_of world.BadFirst = system.BadSize
system_fault_of world.OutOfMemory = system.OutOfMemory
