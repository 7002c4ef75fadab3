-- The fields of a made message, and which sources are too long for one.
use Rattle.std.specs.Prelude.{◌<◌, ◌⊎◌, ℕ, List, length, Option, Some, None, IsSome}
use Rattle.alog_msg.specs.Source.{SourceFields}
use Rattle.alog_msg.specs.declared.limits.TheConstants.{FILE_MAX, FUNCTION_MAX, SHORT_TEXT_MAX}
use Rattle.alog_msg.specs.declared.source.SourceRef.{SourceRef}

-- what a lent source says
abbrev pub fields_of : SourceRef → SourceFields
fields_of s = record { file = s.file.now; line = s.line; function = s.function.now }

-- what a lent source says, if there is one
abbrev pub source_of : Option SourceRef → Option SourceFields
source_of None = None
source_of (Some s) = Some (fields_of s)

-- a file of more than 256 bytes, or a function of more than 128
abbrev pub HasLongField : Option SourceRef → Type 0
HasLongField None = ⊥
HasLongField (Some s) = (FILE_MAX < length s.file.now) ⊎ (FUNCTION_MAX < length s.function.now)

-- a message of this text and this source takes memory: the text is not short, or there is a source
abbrev pub TakesMemory : {S : Type 0} → List ℕ → Option S → Type 0
TakesMemory text source = (SHORT_TEXT_MAX < length text) ⊎ IsSome source
