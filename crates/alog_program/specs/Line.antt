-- What `alog format` is asked for.
use Rattle.std.specs.Prelude.{ℕ, ◌<◌, ◌≤◌, ◌⊎◌, List, Option, length}
use Rattle.std.specs.Io.KnownBytes.{Appends}
use Rattle.alog_msg.specs.Message.{source_of, HasLongField}
use Rattle.alog_msg.specs.declared.limits.TheConstants.{DEFAULT_TEXT_LIMIT, LOGGER_NAME_MAX}
use Rattle.alog_msg.specs.declared.message.Message.{Message}
use Rattle.alog_pattern.specs.declared.patterns.TheConstants.{LINE_MAX, PATTERN_MAX}
use Rattle.alog_pattern.specs.Grammar.{IsReading}
use Rattle.alog_pattern.specs.Length.{LineExceeds}
use Rattle.alog_pattern.specs.declared.items.Item.{Item}
use Rattle.alog_format.specs.Line.{IsLine}
use Rattle.alog_program.specs.declared.request.LineRequest.{LineRequest}

-- the message
abbrev pub message_of : LineRequest → Message
message_of r =
    record { logger = 0; level = r.level; time = r.time; thread = r.thread; text = r.text.now; source = source_of r.source }

-- the bytes are the message's line behind one of the previous time, by the items that the pattern reads as
abbrev pub IsLineOf : LineRequest → List ℕ → Type 0
IsLineOf r bytes =
    (items : List Item) × IsReading r.pattern.now items × IsLine r.context items r.name.now (message_of r) r.previous bytes

abbrev pub IsPatternTooLong : LineRequest → Type 0
IsPatternTooLong r = PATTERN_MAX < length r.pattern.now

abbrev pub IsLineTooLong : LineRequest → Type 0
IsLineTooLong r = (length r.pattern.now ≤ PATTERN_MAX) × LineExceeds LINE_MAX DEFAULT_TEXT_LIMIT r.pattern.now

abbrev pub IsTextTooLong : LineRequest → Type 0
IsTextTooLong r = DEFAULT_TEXT_LIMIT < length r.text.now

abbrev pub IsFieldTooLong : LineRequest → Type 0
IsFieldTooLong r =
    (length r.text.now ≤ DEFAULT_TEXT_LIMIT) × (HasLongField r.source ⊎ (LOGGER_NAME_MAX < length r.name.now))

-- the text, the name, the file and the function are within their limits
abbrev pub Fits : LineRequest → Type 0
Fits r = (¬ IsTextTooLong r) × (¬ IsFieldTooLong r)

-- a limit is passed: of the pattern, of its longest line, of the text, or of the name, file or function
abbrev pub IsRefused : LineRequest → Type 0
IsRefused r = IsPatternTooLong r ⊎ IsLineTooLong r ⊎ IsTextTooLong r ⊎ IsFieldTooLong r

-- the line was written, and nothing else
abbrev pub WritesLineOf : LineRequest → Option (List ℕ) → Option (List ℕ) → Type 0
WritesLineOf r old new = (bytes : List ℕ) × IsLineOf r bytes × Appends old new bytes
