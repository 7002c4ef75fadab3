-- Files by days, line by line: the entries that lines make, what a line does to files, and what is stood for.
use Rattle.std.specs.Prelude.{◌≡◌, ℕ, zero, suc, ◌+◌, ◌*◌, nat_lt, ℤ, pos, ◌-ℤ◌, ◌≤ℤ◌, unsigned_abs, Bool, true, if◌then◌else◌}
use Rattle.std.specs.Prelude.{Option, None, Some, List, [], ◌∷◌, ◌++◌, map}
use Rattle.std.specs.Int.Signed.{lt_z}
use Rattle.std.specs.List.{All}
use Rattle.circular_buffer.specs.Buffer.{keep_last}
use Rattle.jiff_core.specs.declared.civil.datetime.DateTime.{DateTime}
use Rattle.jiff.specs.Words.{epoch_day}
use Rattle.jiff_core.specs.Time.{time_seconds}
use Rattle.alog_sink.specs.Daily.{Entry, opens, is_last, last_name, with_name, IsDaily}
use Rattle.alog_sink.specs.DailyDeeds.{makes_way}
use Rattle.alog_sink.specs.Deeds.{Deed, Append}
use Rattle.alog_sink.specs.Files.{Files}
use Rattle.alog_sink.specs.Lines.{Written}
use Rattle.alog_sink.specs.Names.{dated}
use Rattle.alog_sink.specs.declared.names.Date.{Date}

-- The name that the dated ones are made of, the second of the day at which a period begins, and how many of the opened files are
-- kept, where 0 keeps all.
pub record DayLimits : Type 0 where
  pub file : List ℕ
  pub change : ℕ
  pub max_files : ℕ

-- seconds since midnight
abbrev pub change_at : ℕ → ℕ → ℕ
change_at hour minute = hour * 3600 + minute * 60

-- The period of a time: its day, or the day before where it is earlier in the day than the change.
abbrev pub period_of : ℕ → DateTime → ℤ
period_of change at = if nat_lt (time_seconds at.time) change then epoch_day at.date -ℤ pos 1 else epoch_day at.date

abbrev pub date_of : DateTime → Date
date_of at = record { year = unsigned_abs at.date.year; month = at.date.month; day = at.date.day }

-- the entry of a line
abbrev pub entry_of : DayLimits → Written → Entry
entry_of limits w = record { period = period_of limits.change w.at; name = dated limits.file (date_of w.at); line = w.line }

abbrev pub entries_of : DayLimits → List Written → List Entry
entries_of limits ws = map (entry_of limits) ws

-- The limits, the greatest period, and the last names that were opened: as many as are kept, and at least one.
pub record Days : Type 0 where
  pub limits : DayLimits
  pub latest : Option ℤ
  pub names : List (List ℕ)

abbrev pub is_later : Option ℤ → ℤ → Bool
is_later None period = true
is_later (Some latest) period = lt_z latest period

abbrev pub names_known : ℕ → ℕ
names_known zero = 1
names_known (suc n) = suc n

-- the names known after one more was opened, and all that is known after an entry
abbrev pub with_opened : ℕ → List (List ℕ) → List ℕ → List (List ℕ)
with_opened max_files names name = keep_last (names_known max_files) (with_name names name)

abbrev pub with_entry : Days → Entry → Days
with_entry d entry =
    if is_later d.latest entry.period
    then record { limits = d.limits; latest = Some entry.period; names = with_opened d.limits.max_files d.names entry.name }
    else d

-- What an entry does to the files: where it opens another name than the last, the one that is pushed out is removed; and its
-- line is appended to the last name.
abbrev pub makes_way_for : Days → List ℕ → List Deed
makes_way_for d name = if is_last name d.names then [] else makes_way d.limits.max_files d.names

abbrev pub deeds_before : Days → Entry → List Deed
deeds_before d entry = if is_later d.latest entry.period then makes_way_for d entry.name else []

abbrev pub deeds_of : Days → Entry → List Deed
deeds_of d entry = deeds_before d entry ++ Append (last_name (with_entry d entry).names) entry.line ∷ []

-- These days and files stand for the opening files and the lines, whose years are not before year 0: the files are those of the
-- lines' entries, a period is later than all of theirs where it is later than the greatest, and the names are the last opened ones.
pub record StandsFor (d : Days) (opening : Files) (ws : List Written) (files : Files) : Type 0 where
  pub opened : List (List ℕ)
  pub daily : IsDaily d.limits.max_files opened opening (entries_of d.limits ws) files
  pub later : (entry : Entry) → opens (entries_of d.limits ws) entry ≡ is_later d.latest entry.period
  pub known : d.names ≡ keep_last (names_known d.limits.max_files) opened
  pub years : All (λ w. pos 0 ≤ℤ w.at.date.year) ws
