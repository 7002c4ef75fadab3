-- The texts of the flags.
use Rattle.std.specs.Prelude.{ℕ, zero, suc, ◌+◌, ◌/◌, ◌%◌, List, [], ◌∷◌, ◌++◌, take, Option, Some, None, ℤ, pos, negsuc, ◌-ℤ◌, unsigned_abs}
use Rattle.std.specs.Prelude.{codes, decimal, nat_lt, ◌==◌, if◌then◌else◌}
use Rattle.std.specs.Fmt.{signed_decimal}
use Rattle.std.specs.Int.{int_div_euclid}
use Rattle.std.specs.List.{after_last}
use Rattle.std.specs.Str.{byte}
use Rattle.alog_format.specs.declared.civil.Civil.{Civil}
use Rattle.alog_msg.specs.Level.{row_of}
use Rattle.alog_msg.specs.Source.{SourceFields}
use Rattle.alog_msg.specs.declared.message.Message.{Message}
use Rattle.alog_pattern.specs.declared.flags.Flag.{Flag}
use Rattle.alog_pattern.specs.declared.flags.Flag.TheVariants as flags

-- what a line shows: the message, the name of its logger, the process, the offset from UTC in whole minutes, the nanoseconds
-- since the message before, and what a clock shows at the message's time
pub record Shown : Type 0 where
  pub message : Message
  pub name : List ℕ
  pub process : ℕ
  pub offset : ℤ
  pub elapsed : ℕ
  pub at : Civil

-- the last k decimal digits of n
unfoldable pub digits : ℕ → ℕ → List ℕ
digits zero n = []
digits (suc k) n = digits k (n / 10) ++ (byte "0" + n % 10) ∷ []

-- a day of the week, 0 for Monday to 6 for Sunday
unfoldable pub weekday_name : ℕ → List ℕ
weekday_name n =
    if n == 0 then codes "Monday" else (if n == 1 then codes "Tuesday" else (if n == 2 then codes "Wednesday"
    else (if n == 3 then codes "Thursday" else (if n == 4 then codes "Friday" else (if n == 5 then codes "Saturday" else codes "Sunday")))))

-- a month, 1 for January to 12 for December
unfoldable pub month_name : ℕ → List ℕ
month_name n =
    if n == 1 then codes "January" else (if n == 2 then codes "February" else (if n == 3 then codes "March"
    else (if n == 4 then codes "April" else (if n == 5 then codes "May" else (if n == 6 then codes "June"
    else (if n == 7 then codes "July" else (if n == 8 then codes "August" else (if n == 9 then codes "September"
    else (if n == 10 then codes "October" else (if n == 11 then codes "November" else codes "December"))))))))))

unfoldable pub short_weekday : Civil → List ℕ
short_weekday at = take 3 (weekday_name at.weekday)

unfoldable pub short_month : Civil → List ℕ
short_month at = take 3 (month_name at.month)

-- midnight and noon are 12
unfoldable pub half_day_hour : ℕ → ℕ
half_day_hour hour = if hour % 12 == 0 then 12 else hour % 12

unfoldable pub half_day : ℕ → List ℕ
half_day hour = if nat_lt hour 12 then codes "AM" else codes "PM"

-- HH:MM
unfoldable pub short_time : Civil → List ℕ
short_time at = digits 2 at.hour ++ codes ":" ++ digits 2 at.minute

-- HH:MM:SS
unfoldable pub time : Civil → List ℕ
time at = short_time at ++ codes ":" ++ digits 2 at.second

-- MM/DD/YY
unfoldable pub short_date : Civil → List ℕ
short_date at = digits 2 at.month ++ codes "/" ++ digits 2 at.day ++ codes "/" ++ digits 2 at.year

-- as 03:35:46 PM
unfoldable pub half_day_time : Civil → List ℕ
half_day_time at =
    digits 2 (half_day_hour at.hour) ++ codes ":" ++ digits 2 at.minute ++ codes ":" ++ digits 2 at.second
    ++ codes " " ++ half_day at.hour

-- as Sat Feb 3 15:35:46 2024
unfoldable pub date_and_time : Civil → List ℕ
date_and_time at =
    short_weekday at ++ codes " " ++ short_month at ++ codes " " ++ decimal at.day ++ codes " " ++ time at
    ++ codes " " ++ digits 4 at.year

-- the sign, hours and minutes of an offset in minutes, as +02:00
abbrev pub offset_sign : ℤ → List ℕ
offset_sign (pos n) = codes "+"
offset_sign (negsuc n) = codes "-"

unfoldable pub offset_text : ℤ → List ℕ
offset_text minutes =
    offset_sign minutes ++ digits 2 (unsigned_abs minutes / 60) ++ codes ":" ++ digits 2 (unsigned_abs minutes % 60)

-- how much of a difference is above 0
abbrev pub above_zero : ℤ → ℕ
above_zero (pos n) = n
above_zero (negsuc n) = 0

-- the nanoseconds from the time of the message before to a time: 0 without one, and where time went back
abbrev pub elapsed : Option ℤ → ℤ → ℕ
elapsed None time = 0
elapsed (Some previous) time = above_zero (time -ℤ previous)

-- whole seconds since the epoch, rounded down
unfoldable pub epoch : ℤ → List ℕ
epoch time = signed_decimal (int_div_euclid time (pos 1_000_000_000))

-- the file after its last `/`
unfoldable pub base : List ℕ → List ℕ
base file = after_last (λ b. b == byte "/") file

unfoldable pub location : List ℕ → SourceFields → List ℕ
location file source = file ++ codes ":" ++ decimal source.line

-- a message without a source has the empty text there
abbrev pub of_source : (SourceFields → List ℕ) → Option SourceFields → List ℕ
of_source text None = []
of_source text (Some source) = text source

-- a text in brackets, with a space behind them
unfoldable pub bracketed : List ℕ → List ℕ
bracketed text = codes "[" ++ text ++ codes "] "

-- YYYY-MM-DD HH:MM:SS.mmm
unfoldable pub stamp : Civil → List ℕ
stamp at =
    digits 4 at.year ++ codes "-" ++ digits 2 at.month ++ codes "-" ++ digits 2 at.day ++ codes " " ++ time at
    ++ codes "." ++ digits 3 (at.nanosecond / 1_000_000)

abbrev pub name_part : List ℕ → List ℕ
name_part [] = []
name_part (b ∷ bs) = bracketed (b ∷ bs)

abbrev pub place_part : Option SourceFields → List ℕ
place_part source = of_source (λ s. bracketed (location (base s.file) s)) source

-- `[YYYY-MM-DD HH:MM:SS.mmm] [name] [level] [base:line] text`, without the name where it is empty and without the
-- place where there is no source
unfoldable pub default_text : Shown → List ℕ
default_text s =
    bracketed (stamp s.at) ++ name_part s.name ++ bracketed (row_of s.message.level).name
    ++ place_part s.message.source ++ s.message.text

-- the text of a flag of the time, and the empty text for another
unfoldable pub time_text : Civil → Flag → List ℕ
time_text at flags.ShortWeekday = short_weekday at
time_text at flags.Weekday = weekday_name at.weekday
time_text at flags.ShortMonth = short_month at
time_text at flags.Month = month_name at.month
time_text at flags.DateTime = date_and_time at
time_text at flags.ShortYear = digits 2 at.year
time_text at flags.Year = digits 4 at.year
time_text at flags.ShortDate = short_date at
time_text at flags.MonthNumber = digits 2 at.month
time_text at flags.Day = digits 2 at.day
time_text at flags.Hour = digits 2 at.hour
time_text at flags.HalfDayHour = digits 2 (half_day_hour at.hour)
time_text at flags.Minute = digits 2 at.minute
time_text at flags.Second = digits 2 at.second
time_text at flags.Milliseconds = digits 3 (at.nanosecond / 1_000_000)
time_text at flags.Microseconds = digits 6 (at.nanosecond / 1_000)
time_text at flags.Nanoseconds = digits 9 at.nanosecond
time_text at flags.HalfDay = half_day at.hour
time_text at flags.HalfDayTime = half_day_time at
time_text at flags.ShortTime = short_time at
time_text at flags.Time = time at
time_text at _ = []

unfoldable pub flag_text : Shown → Flag → List ℕ
flag_text s flags.Text = s.message.text
flag_text s flags.Thread = decimal s.message.thread
flag_text s flags.Process = decimal s.process
flag_text s flags.Name = s.name
flag_text s flags.Level = (row_of s.message.level).name
flag_text s flags.ShortLevel = (row_of s.message.level).short
flag_text s flags.Offset = offset_text s.offset
flag_text s flags.Epoch = epoch s.message.time
flag_text s flags.ElapsedNanoseconds = decimal s.elapsed
flag_text s flags.ElapsedMicroseconds = decimal (s.elapsed / 1_000)
flag_text s flags.ElapsedMilliseconds = decimal (s.elapsed / 1_000_000)
flag_text s flags.ElapsedSeconds = decimal (s.elapsed / 1_000_000_000)
flag_text s flags.Percent = codes "%"
flag_text s flags.Default = default_text s
flag_text s flags.ColourStart = []
flag_text s flags.ColourEnd = []
flag_text s flags.Location = of_source (λ source. location source.file source) s.message.source
flag_text s flags.FileBase = of_source (λ source. base source.file) s.message.source
flag_text s flags.File = of_source (λ source. source.file) s.message.source
flag_text s flags.Line = of_source (λ source. decimal source.line) s.message.source
flag_text s flags.Function = of_source (λ source. source.function) s.message.source
flag_text s flag = time_text s.at flag
