-- What a caller says in numbers and bytes.
use Rattle.std.specs.Prelude.{◌≡◌, ◌<◌, ◌≤◌, ℕ, List, length, Option, Some, None}
use Rattle.std.specs.Str.{IsUtf8}
use Rattle.alog_ffi.specs.declared.answer.Answer.{Answer}
use Rattle.alog_ffi.specs.declared.answer.Answer.TheVariants as answer
use Rattle.alog_ffi.specs.declared.said.Heard.{Heard}
use Rattle.alog_ffi.specs.declared.said.Said.{Said}
use Rattle.alog_ffi.specs.declared.said.Source.{Source}
use Rattle.alog_msg.specs.Level.{row_of}
use Rattle.alog_msg.specs.declared.level.Level.{Level}
use Rattle.alog_msg.specs.declared.source.SourceRef.{SourceRef}
use Rattle.alog_registry.specs.Listed.{spec_at}
use Rattle.alog_registry.specs.Logging.{IsBelow}
use Rattle.alog_registry.specs.declared.logger.Logger.{Logger}
use Rattle.alog_registry.specs.declared.logger.Spec.{Spec}

-- the level of this number, if there is one
abbrev pub IsLevelOf : ℕ → Option Level → Type 0
IsLevelOf number (Some level) = (row_of level).number ≡ number
IsLevelOf number None = 6 < number

-- the bytes as a text, where they are UTF-8
abbrev pub IsSourceOf : Option Source → Option SourceRef → Type 0
IsSourceOf None None = Unit {0}
IsSourceOf (Some s) (Some t) = (t.file.now ≡ s.file.now) × (t.line ≡ s.line) × (t.function.now ≡ s.function.now)
IsSourceOf _ _ = ⊥

-- all of its bytes are UTF-8
abbrev pub AreTexts : Option Source → Type 0
AreTexts None = Unit {0}
AreTexts (Some s) = IsUtf8 s.file.now × IsUtf8 s.function.now

-- It is what was said: of a logger that there is, at the level of that number, with these texts.
pub record IsHeard (loggers : List Logger) (said : Said) (h : Heard) : Type 0 where
  pub logger : h.logger ≡ said.logger
  pub known : said.logger < length loggers
  pub level : (row_of h.level).number ≡ said.level
  pub text : h.text.now ≡ said.text.now
  pub source : IsSourceOf said.source h.source

-- The first reason why it is no message of these loggers.
abbrev pub IsUnheard : List Logger → Said → Answer → Type 0
IsUnheard loggers said answer.NoLogger = length loggers ≤ said.logger
IsUnheard loggers said answer.NoLevel = (said.logger < length loggers) × (6 < said.level)
IsUnheard loggers said answer.NotUtf8 = (said.logger < length loggers) × (said.level ≤ 6) × ¬ (IsUtf8 said.text.now × AreTexts said.source)
IsUnheard loggers said _ = ⊥

-- It is below this level of its logger, which keeps no backtrace, so that its text and its source are not looked at.
pub record IsFiltered (loggers : List Logger) (said : Said) (own : Level) : Type 0 where
  pub level : Level
  pub is : (row_of level).number ≡ said.level
  pub below : IsBelow level own
  pub spec : Spec
  pub of : spec_at loggers said.logger ≡ Some spec
  pub plain : spec.backtrace ≡ 0
