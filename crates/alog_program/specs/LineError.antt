-- What the faults of a line are: their numbers, their exit statuses, and what a fault of a layer below is.
use Rattle.std.specs.Prelude.{ℕ}
use Rattle.alog_msg.specs.declared.message.MessageError.{MessageError}
use Rattle.alog_msg.specs.declared.message.MessageError.TheVariants as message
use Rattle.alog_pattern.specs.declared.patterns.PatternError.{PatternError}
use Rattle.alog_pattern.specs.declared.patterns.PatternError.TheVariants as pattern
use Rattle.alog_program.specs.declared.line.LineError.{LineError}
use Rattle.alog_program.specs.declared.line.LineError.TheVariants.{PatternTooLong, LineTooLong, TextTooLong, FieldTooLong, OutOfMemory}

abbrev pub of_pattern : PatternError → LineError
of_pattern pattern.PatternTooLong = PatternTooLong
of_pattern pattern.LineTooLong = LineTooLong
of_pattern pattern.OutOfMemory = OutOfMemory

abbrev pub of_message : MessageError → LineError
of_message message.TextTooLong = TextTooLong
of_message message.FieldTooLong = FieldTooLong
of_message message.OutOfMemory = OutOfMemory

abbrev pub number_of : LineError → ℕ
number_of OutOfMemory = 1
number_of TextTooLong = 2
number_of FieldTooLong = 3
number_of PatternTooLong = 17
number_of LineTooLong = 18

abbrev pub status_of : LineError → ℕ
status_of OutOfMemory = 4
status_of TextTooLong = 2
status_of FieldTooLong = 2
status_of PatternTooLong = 2
status_of LineTooLong = 2
