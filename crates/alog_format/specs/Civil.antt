-- What a clock of a zone shows at a time.
use Rattle.std.specs.Prelude.{◌≡◌, ℕ, ◌≤◌, ℤ, pos, neg_ℤ, unsigned_abs, int_div, ◌+ℤ◌, ◌*ℤ◌, ◌≤ℤ◌, List, length, Some, IsSome}
use Rattle.jiff_core.specs.declared.civil.datetime.DateTime.{DateTime}
use Rattle.std.specs.Int.{int_div_euclid, int_rem_euclid}
use Rattle.jiff.specs.Words.{weekday_of, civil_nanos, epoch_day, nanos_of_seconds}
use Rattle.jiff_tz.specs.PosixReader.{read_whole}
use Rattle.jiff_tz.specs.PosixRule.{offset_at}
use Rattle.jiff_tz.specs.PosixText.{tz_view}
use Rattle.alog_format.specs.declared.civil.Civil.{Civil}
use Rattle.alog_format.specs.declared.context.TheConstants.{OFFSET_MAX, RULE_MAX}
use Rattle.alog_format.specs.declared.context.Zone.{Zone}
use Rattle.alog_format.specs.declared.context.Zone.TheVariants.{Fixed, Rule}

-- seconds east of UTC at a time in nanoseconds since the epoch; what a rule says then is as jiff has it
abbrev pub offset_seconds : Zone → ℤ → ℤ
offset_seconds (Fixed minutes) time = minutes *ℤ pos 60
offset_seconds (Rule rule) time = (offset_at rule time).seconds

-- the minutes of a fixed offset; a rule has none
abbrev pub fixed_minutes : Zone → ℤ
fixed_minutes (Fixed minutes) = minutes
fixed_minutes (Rule rule) = pos 0

-- a fixed offset is less than a day, either way
abbrev pub IsZone : Zone → Type 0
IsZone zone = (neg_ℤ OFFSET_MAX ≤ℤ fixed_minutes zone) × (fixed_minutes zone ≤ℤ OFFSET_MAX)

-- the text is a rule: not too long, and one that the grammar of POSIX reads as a whole
abbrev pub IsRuleText : List ℕ → Type 0
IsRuleText text = (length text ≤ RULE_MAX) × IsSome (read_whole text)

-- the zone is the rule of the text
abbrev pub IsRuleOf : List ℕ → Zone → Type 0
IsRuleOf text (Fixed minutes) = ⊥
IsRuleOf text (Rule rule) = (length text ≤ RULE_MAX) × (read_whole text ≡ Some (tz_view rule))

-- the fields of a date and a time of day on a clock so many seconds east of UTC, of which the whole minutes are a field;
-- the years that a message can have are 1677 to 2262
abbrev pub fields : ℤ → DateTime → Civil
fields seconds at = record {
  year = unsigned_abs at.date.year;
  month = at.date.month;
  day = at.date.day;
  weekday = weekday_of at.date;
  hour = at.time.hour;
  minute = at.time.minute;
  second = at.time.second;
  nanosecond = at.time.subsec_nanosecond;
  offset = int_div seconds (pos 60);
}

-- nanoseconds from 1970-01-01 00:00:00 on a clock of the zone, at a time in nanoseconds since the epoch
abbrev pub local_nanos : Zone → ℤ → ℤ
local_nanos zone time = time +ℤ nanos_of_seconds (offset_seconds zone time)

-- a clock of the zone shows this at the time
abbrev pub IsShownAt : Zone → ℤ → Civil → Type 0
IsShownAt zone time civil = (at : DateTime) × (civil_nanos at ≡ local_nanos zone time) × (civil ≡ fields (offset_seconds zone time) at)

-- what a clock shows, with other nanoseconds
abbrev pub with_nanosecond : ℕ → Civil → Civil
with_nanosecond n civil = record {
  year = civil.year;
  month = civil.month;
  day = civil.day;
  weekday = civil.weekday;
  hour = civil.hour;
  minute = civil.minute;
  second = civil.second;
  nanosecond = n;
  offset = civil.offset;
}

-- whole seconds from 1970-01-01 00:00:00 on a clock of the zone
abbrev pub clock_seconds : Zone → ℤ → ℤ
clock_seconds zone time = int_div_euclid time (pos 1_000_000_000) +ℤ offset_seconds zone time

-- the day that a clock of the zone shows at a time, counted from 1970-01-01, and how many whole seconds of it have gone by
abbrev pub day_at : Zone → ℤ → ℤ
day_at zone time = int_div_euclid (local_nanos zone time) (pos 86_400_000_000_000)

abbrev pub second_at : Zone → ℤ → ℤ
second_at zone time = int_div_euclid (int_rem_euclid (local_nanos zone time) (pos 86_400_000_000_000)) (pos 1_000_000_000)

-- that day is the one of the date that the clock shows
abbrev pub DaysAreOfDates : Type 0
DaysAreOfDates = (zone : Zone) (time : ℤ) (at : DateTime) → civil_nanos at ≡ local_nanos zone time → day_at zone time ≡ epoch_day at.date
