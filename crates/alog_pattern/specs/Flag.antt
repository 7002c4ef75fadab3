-- The flags: which byte stands for which, and how long a flag's text can be.
use Rattle.std.specs.Prelude.{ℕ, ◌+◌, List, [], ◌∷◌, ◌++◌, Option, Some, None, Bool, true, false, ◌==◌, if◌then◌else◌}
use Rattle.std.specs.Str.{byte}
use Rattle.alog_msg.specs.declared.limits.TheConstants.{FILE_MAX, FUNCTION_MAX, LOGGER_NAME_MAX}
use Rattle.alog_pattern.specs.declared.flags.Flag.{Flag}
use Rattle.alog_pattern.specs.declared.flags.Flag.TheVariants.{Text, Thread, Process, Name, Level, ShortLevel, ShortWeekday}
use Rattle.alog_pattern.specs.declared.flags.Flag.TheVariants.{Weekday, ShortMonth, Month, DateTime, ShortYear, Year, ShortDate}
use Rattle.alog_pattern.specs.declared.flags.Flag.TheVariants.{MonthNumber, Day, Hour, HalfDayHour, Minute, Second, Milliseconds}
use Rattle.alog_pattern.specs.declared.flags.Flag.TheVariants.{Microseconds, Nanoseconds, HalfDay, HalfDayTime, ShortTime, Time}
use Rattle.alog_pattern.specs.declared.flags.Flag.TheVariants.{Offset, Epoch, Percent, Default, ColourStart, ColourEnd, Location}
use Rattle.alog_pattern.specs.declared.flags.Flag.TheVariants.{FileBase, File, Line, Function}
use Rattle.alog_pattern.specs.declared.flags.Flag.TheVariants.{ElapsedNanoseconds, ElapsedMicroseconds, ElapsedMilliseconds, ElapsedSeconds}

-- the flag bytes of a message, of the time since the one before it, and of what is the same in each line, each with its flag
abbrev pub message_flags : List (ℕ × Flag)
message_flags =
    (byte "v", Text) ∷ (byte "t", Thread) ∷ (byte "P", Process) ∷ (byte "n", Name) ∷ (byte "l", Level) ∷ (byte "L", ShortLevel)
    ∷ (byte "u", ElapsedNanoseconds) ∷ (byte "i", ElapsedMicroseconds) ∷ (byte "o", ElapsedMilliseconds) ∷ (byte "O", ElapsedSeconds)
    ∷ (byte "%", Percent) ∷ (byte "+", Default) ∷ (byte "^", ColourStart) ∷ (byte "$", ColourEnd)
    ∷ (byte "@", Location) ∷ (byte "s", FileBase) ∷ (byte "g", File) ∷ (byte "#", Line) ∷ (byte "!", Function) ∷ []

-- those of its time
abbrev pub time_flags : List (ℕ × Flag)
time_flags =
    (byte "a", ShortWeekday) ∷ (byte "A", Weekday) ∷ (byte "b", ShortMonth) ∷ (byte "B", Month) ∷ (byte "c", DateTime)
    ∷ (byte "C", ShortYear) ∷ (byte "Y", Year) ∷ (byte "D", ShortDate) ∷ (byte "x", ShortDate) ∷ (byte "m", MonthNumber) ∷ (byte "d", Day)
    ∷ (byte "H", Hour) ∷ (byte "I", HalfDayHour) ∷ (byte "M", Minute) ∷ (byte "S", Second)
    ∷ (byte "e", Milliseconds) ∷ (byte "f", Microseconds) ∷ (byte "F", Nanoseconds) ∷ (byte "p", HalfDay)
    ∷ (byte "r", HalfDayTime) ∷ (byte "R", ShortTime) ∷ (byte "T", Time) ∷ (byte "X", Time) ∷ (byte "z", Offset) ∷ (byte "E", Epoch) ∷ []

-- the flag of a byte in such a table
abbrev pub flag_in : List (ℕ × Flag) → ℕ → Option Flag
flag_in [] b = None
flag_in (row ∷ rows) b = if b == row.0 then Some row.1 else flag_in rows b

-- the flag that a byte stands for, if it stands for one
unfoldable pub flag_of : ℕ → Option Flag
flag_of b = flag_in (message_flags ++ time_flags) b

-- the greatest length of a flag's text, where the text of a message has at most limit bytes
abbrev pub greatest_len : ℕ → Flag → ℕ
greatest_len limit Text = limit
greatest_len limit Thread = 20
greatest_len limit Process = 10
greatest_len limit Name = LOGGER_NAME_MAX
greatest_len limit Level = 8
greatest_len limit ShortLevel = 1
greatest_len limit ShortWeekday = 3
greatest_len limit Weekday = 9
greatest_len limit ShortMonth = 3
greatest_len limit Month = 9
greatest_len limit DateTime = 24
greatest_len limit ShortYear = 2
greatest_len limit Year = 4
greatest_len limit ShortDate = 8
greatest_len limit MonthNumber = 2
greatest_len limit Day = 2
greatest_len limit Hour = 2
greatest_len limit HalfDayHour = 2
greatest_len limit Minute = 2
greatest_len limit Second = 2
greatest_len limit Milliseconds = 3
greatest_len limit Microseconds = 6
greatest_len limit Nanoseconds = 9
greatest_len limit HalfDay = 2
greatest_len limit HalfDayTime = 11
greatest_len limit ShortTime = 5
greatest_len limit Time = 8
greatest_len limit Offset = 6
greatest_len limit Epoch = 11
greatest_len limit ElapsedNanoseconds = 20
greatest_len limit ElapsedMicroseconds = 17
greatest_len limit ElapsedMilliseconds = 14
greatest_len limit ElapsedSeconds = 11
greatest_len limit Percent = 1
greatest_len limit Default = limit + 374
greatest_len limit ColourStart = 0
greatest_len limit ColourEnd = 0
greatest_len limit Location = 267
greatest_len limit FileBase = FILE_MAX
greatest_len limit File = FILE_MAX
greatest_len limit Line = 10
greatest_len limit Function = FUNCTION_MAX

-- a padding and a cut leave the text of these as it is
abbrev pub ignores_padding : Flag → Bool
ignores_padding Percent = true
ignores_padding Default = true
ignores_padding ColourStart = true
ignores_padding ColourEnd = true
ignores_padding _ = false
