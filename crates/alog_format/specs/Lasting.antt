-- What of a line is the same throughout a second.
use Rattle.std.specs.Prelude.{◌≡◌, ◌≤◌, ℕ, Bool, true, false, List, [], ◌∷◌, None, All, length, take}
use Rattle.std.specs.List.{flat_map}
use Rattle.alog_pattern.specs.Compiled.{Compiled}
use Rattle.alog_pattern.specs.declared.flags.Flag.{Flag}
use Rattle.alog_pattern.specs.declared.flags.Flag.TheVariants as flags
use Rattle.alog_pattern.specs.declared.items.Item.{Item}
use Rattle.alog_pattern.specs.declared.items.Item.TheVariants as items
use Rattle.alog_format.specs.declared.civil.Civil.{Civil}
use Rattle.alog_format.specs.Civil.{with_nanosecond}
use Rattle.alog_format.specs.Text.{time_text}

-- the flags of whole seconds
abbrev pub flag_lasts : Flag → Bool
flag_lasts flags.ShortWeekday = true
flag_lasts flags.Weekday = true
flag_lasts flags.ShortMonth = true
flag_lasts flags.Month = true
flag_lasts flags.DateTime = true
flag_lasts flags.ShortYear = true
flag_lasts flags.Year = true
flag_lasts flags.ShortDate = true
flag_lasts flags.MonthNumber = true
flag_lasts flags.Day = true
flag_lasts flags.Hour = true
flag_lasts flags.HalfDayHour = true
flag_lasts flags.Minute = true
flag_lasts flags.Second = true
flag_lasts flags.HalfDay = true
flag_lasts flags.HalfDayTime = true
flag_lasts flags.ShortTime = true
flag_lasts flags.Time = true
flag_lasts _ = false

-- the items whose text is the same throughout a second: bytes, and flags of whole seconds that are not padded
abbrev pub lasts : Item → Bool
lasts (items.Byte b) = true
lasts (items.Flag flag None) = flag_lasts flag
lasts _ = false

-- the text of such an item, where a clock shows `at`
abbrev pub second_text : Civil → Item → List ℕ
second_text at (items.Byte b) = b ∷ []
second_text at (items.Flag flag None) = time_text (with_nanosecond 0 at) flag
second_text at _ = []

-- the bytes are the texts of the first items, and those last
abbrev pub AreFirst : List Item → Civil → ℕ → List ℕ → Type 0
AreFirst items at count bytes =
    (count ≤ length items) × All (λ item. lasts item ≡ true) (take count items) × (bytes ≡ flat_map (second_text at) (take count items))

-- what contracts see of a formatter: its pattern, and what a clock shows at the time of the last line
pub record FormatterView : Type 0 where
  pub pattern : Compiled
  pub at : Civil
