-- Loggers may be shared and may go to other threads; so may a backtrace, and what its turns use.
use denote.Param.Send.{IsSend, IsSync, sendable, view_send, view_sync}
use Rattle.std.proofs.Crossing.{crosses, frees, Vec-send, Vec-sync, send as heap_send}
use Rattle.std.specs.contracts.alloc.Global as Global
use Rattle.std.specs.contracts.impls.GlobalAllocator.TheImpl.{ghosts as alloc_ghosts}
use Rattle.circular_buffer.proofs.Crosses.{Cells-send, Deed-send}
use Rattle.circular_buffer.specs.contracts.heap.HeapCircularBuffer as Messages
use Rattle.circular_buffer.specs.contracts.heap.HeapCircularBuffer.TheInside as MessagesInside
use Rattle.alog_msg.proofs.SharedCrosses.{message_send, text_send, text_sync}
use Rattle.alog_msg.specs.contracts.message.Message as Message
use Rattle.alog_registry.specs.contracts.backtrace.Backtrace as Backtrace
use Rattle.alog_registry.specs.contracts.backtrace.Backtrace.TheInside as BacktraceInside
use Rattle.alog_registry.specs.contracts.dumped.Dumped as Dumped
use Rattle.alog_registry.specs.contracts.dumped.Dumped.TheInside as DumpedInside
use Rattle.alog_registry.specs.contracts.level_word.LevelWord as LevelWord
use Rattle.alog_registry.specs.contracts.logger.Logger as Logger
use Rattle.alog_registry.specs.contracts.logger.Spec as Spec
use Rattle.alog_registry.specs.contracts.loggers.Loggers as Loggers
use Rattle.alog_registry.specs.contracts.loggers.Loggers.TheInside as LoggersInside
use Rattle.alog_registry.specs.contracts.turn.BacktraceScratch as Scratch

messages_inside_send : IsSend (MessagesInside.the_row Message.the_row Global.the_row alloc_ghosts)
messages_inside_send = search (sendable, crosses, heap_send, frees, Cells-send, Deed-send, message_send) depth 30

messages_send : IsSend (Messages.the_row Message.the_row Global.the_row alloc_ghosts)
messages_send = view_send _ _ _ _ _ messages_inside_send

backtrace_inside_send : IsSend BacktraceInside.the_row
backtrace_inside_send = search (sendable, messages_send) depth 9

pub backtrace_send : IsSend Backtrace.the_row
backtrace_send = view_send _ _ _ _ _ backtrace_inside_send

dumped_inside_send : IsSend DumpedInside.the_row
dumped_inside_send = search (sendable, messages_send) depth 9

dumped_send : IsSend Dumped.the_row
dumped_send = view_send _ _ _ _ _ dumped_inside_send

pub scratch_send : IsSend (Scratch.the_field).row
scratch_send = search (sendable, message_send, dumped_send) depth 20

spec_send : IsSend (Spec.the_field).row
spec_send = search (sendable, Vec-send) depth 20

spec_sync : IsSync (Spec.the_field).row
spec_sync = search (sendable, Vec-sync) depth 20

logger_send : IsSend Logger.the_row
logger_send = search (sendable, text_send, spec_send) depth 20

logger_sync : IsSync Logger.the_row
logger_sync = search (sendable, text_sync, spec_sync) depth 20

word_send : IsSend LevelWord.the_row
word_send = search (sendable, crosses) depth 20

word_sync : IsSync LevelWord.the_row
word_sync = search (sendable, crosses) depth 20

loggers_inside_send : IsSend LoggersInside.the_row
loggers_inside_send = search (sendable, Vec-send, logger_send, word_send) depth 12

loggers_inside_sync : IsSync LoggersInside.the_row
loggers_inside_sync = search (sendable, Vec-sync, logger_sync, word_sync) depth 12

pub loggers_send : IsSend Loggers.the_row
loggers_send = view_send _ _ _ _ _ loggers_inside_send

pub loggers_sync : IsSync Loggers.the_row
loggers_sync = view_sync _ _ _ _ _ loggers_inside_sync
