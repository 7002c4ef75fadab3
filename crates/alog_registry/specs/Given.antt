-- The message that a logger is given the fields of, and whether it can be made.
use Rattle.std.specs.Prelude.{ℕ, ℤ, ◌<◌, ◌≤◌, List, length, Option}
use Rattle.alog_msg.specs.Message.{source_of, HasLongField}
use Rattle.alog_msg.specs.declared.level.Level.{Level}
use Rattle.alog_msg.specs.declared.message.Message.{Message}
use Rattle.alog_msg.specs.declared.message.MessageError.{MessageError}
use Rattle.alog_msg.specs.declared.message.MessageError.TheVariants as message
use Rattle.alog_msg.specs.declared.source.SourceRef.{SourceRef}
use Rattle.alog_registry.specs.declared.given.MessageRef.{MessageRef}

-- the message with exactly these fields
abbrev pub message_with : ℕ → Level → ℤ → ℕ → List ℕ → Option SourceRef → Message
message_with logger level time thread text source = record {
  logger = logger;
  level = level;
  time = time;
  thread = thread;
  text = text;
  source = source_of source;
}

abbrev pub message_of : MessageRef → Message
message_of g = message_with g.logger g.level g.time g.thread g.text.now g.source

-- the text and the source are within their limits; the text is, but not the source
abbrev pub IsWithin : ℕ → List ℕ → Option SourceRef → Type 0
IsWithin limit text source = (length text ≤ limit) × ¬ HasLongField source

abbrev pub IsTooLongField : ℕ → List ℕ → Option SourceRef → Type 0
IsTooLongField limit text source = (length text ≤ limit) × HasLongField source

-- when a message with this text and this source is refused so
abbrev pub IsReason : ℕ → List ℕ → Option SourceRef → MessageError → Type 0
IsReason limit text source message.TextTooLong = limit < length text
IsReason limit text source message.FieldTooLong = IsTooLongField limit text source
IsReason limit text source message.OutOfMemory = IsWithin limit text source
