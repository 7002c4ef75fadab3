-- The line of a message.
use Rattle.std.specs.Prelude.{◌≡◌, ℕ, ◌^◌, ◌<◌, ◌≤◌, List, [], ◌∷◌, ◌++◌, length, Option, Some, None, false, ℤ, FitsSigned, if◌then◌else◌}
use Rattle.std.specs.Int.{w64}
use Rattle.alog_msg.specs.Source.{SourceFields}
use Rattle.alog_format.specs.Buffer.{Buffer, appended}
use Rattle.std.specs.List.{flat_map}
use Rattle.std.specs.Str.{byte}
use Rattle.alog_format.specs.declared.civil.Civil.{Civil}
use Rattle.alog_msg.specs.declared.limits.TheConstants.{FILE_MAX, FUNCTION_MAX, LOGGER_NAME_MAX}
use Rattle.alog_msg.specs.declared.message.Message.{Message}
use Rattle.alog_pattern.specs.declared.items.Item.{Item}
use Rattle.alog_pattern.specs.declared.items.Item.TheVariants as items
use Rattle.alog_pattern.specs.Flag.{ignores_padding}
use Rattle.alog_pattern.specs.Padding.{pad, padded}
use Rattle.alog_format.specs.declared.context.Context.{Context}
use Rattle.alog_format.specs.declared.flag_texts.Facts.{Facts}
use Rattle.alog_format.specs.Civil.{IsShownAt}
use Rattle.alog_format.specs.Text.{Shown, elapsed, flag_text, of_source}

abbrev pub shown_by : Facts → Shown
shown_by f = record { message = f.message.now; name = f.name.now; process = f.process; offset = f.offset; elapsed = f.elapsed; at = f.at.now }

abbrev pub item_text : Shown → Item → List ℕ
item_text s (items.Byte b) = b ∷ []
item_text s (items.Flag flag padding) = if ignores_padding flag then flag_text s flag else padded padding (flag_text s flag)
item_text s (items.Unknown b) = byte "%" ∷ b ∷ []
item_text s (items.Function width side next) =
    pad width side false (of_source (λ source. source.function) s.message.source) ++ next ∷ []

-- the texts of the items in order, and a newline
abbrev pub line_text : Shown → List Item → List ℕ
line_text s items = flat_map (item_text s) items ++ 10 ∷ []

-- what a line of the message shows behind a message of the previous time, where a clock shows `at`
abbrev pub shown : Context → List ℕ → Message → Option ℤ → Civil → Shown
shown context name message previous at = record {
  message = message;
  name = name;
  process = context.process;
  offset = at.offset;
  elapsed = elapsed previous message.time;
  at = at;
}

-- a line of the message shows this
abbrev pub IsShown : Context → List ℕ → Message → Option ℤ → Shown → Type 0
IsShown context name message previous s =
    (at : Civil) × IsShownAt context.zone message.time at × (s ≡ shown context name message previous at)

-- the bytes are the message's line behind a message of the previous time
abbrev pub IsLine : Context → List Item → List ℕ → Message → Option ℤ → List ℕ → Type 0
IsLine context items name message previous bytes =
    (s : Shown) × IsShown context name message previous s × (bytes ≡ line_text s items)

-- the fields of a source keep to their limits
abbrev pub SourceFits : Option SourceFields → Type 0
SourceFits None = Unit {0}
SourceFits (Some source) = (length source.file ≤ FILE_MAX) × (source.line < 2 ^ 32) × (length source.function ≤ FUNCTION_MAX)

-- what keeps each flag's text within its greatest length, where texts of messages have at most limit bytes
pub record IsShowable (limit : ℕ) (s : Shown) : Type 0 where
  pub text : length s.message.text ≤ limit
  pub name : length s.name ≤ LOGGER_NAME_MAX
  pub thread : s.message.thread < 2 ^ 64
  pub process : s.process < 2 ^ 32
  pub time : FitsSigned w64 s.message.time
  pub elapsed : s.elapsed < 2 ^ 64
  pub day : s.at.day ≤ 31
  pub source : SourceFits s.message.source

-- the new buffer is the old one with the message's line behind it
abbrev pub AppendsLine : Context → List Item → List ℕ → Message → Option ℤ → Buffer → Buffer → Type 0
AppendsLine context items name message previous old new =
    (bytes : List ℕ) × IsLine context items name message previous bytes × (new ≡ appended old bytes)

-- two lines of the message behind the same one before are the same
abbrev pub HasOneLine : Context → List Item → List ℕ → Message → Option ℤ → Type 0
HasOneLine context items name message previous =
    (bytes others : List ℕ) → IsLine context items name message previous bytes → IsLine context items name message previous others
    → bytes ≡ others
