-- How long the texts of flags and items are at most.
use Rattle.std.proofs.Common.{◌≡◌, ℕ, zero, suc, ◌+◌, ◌/◌, ◌%◌, ◌^◌, ◌≤◌, ◌<◌, cond, Bool, true, false, List, [], ◌∷◌, length, Option, Some}
use Rattle.std.proofs.Common.{None, ℤ, pos, negsuc, refl, ◌∙◌, arith, length-append, length-take, length-drop, FitsSigned, w64, lit≤}
use Rattle.std.specs.Prelude.{decimal, nat_lt, ◌==◌}
use Rattle.std.proofs.lemmas.Fmt.{length-decimal-le}
use Rattle.std.proofs.lemmas.Int.{ints}
use Rattle.alog_msg.specs.declared.level.Level.{Level}
use Rattle.alog_msg.specs.declared.level.Level.TheVariants as levels
use Rattle.alog_msg.specs.Level.{row_of}
use Rattle.alog_msg.specs.Source.{SourceFields}
use Rattle.alog_pattern.specs.declared.flags.Flag.{Flag}
use Rattle.alog_pattern.specs.declared.flags.Flag.TheVariants as flags
use Rattle.alog_pattern.specs.Flag.{greatest_len}
use Rattle.alog_format.specs.declared.civil.Civil.{Civil}
use Rattle.alog_format.specs.Line.{IsShowable, SourceFits}
use Rattle.alog_format.specs.Text.{Shown, digits, weekday_name, month_name, short_weekday, short_month, half_day_hour, half_day, short_time}
use Rattle.alog_format.specs.Text.{time, short_date, half_day_time, date_and_time, offset_sign, offset_text, epoch, base, location}
use Rattle.alog_format.specs.Text.{of_source, bracketed, stamp, name_part, place_part, default_text, time_text, flag_text}

abbrev Within : ℕ → List ℕ → Type 0
Within n text = length text ≤ n

within_cond : (n : ℕ) (b : Bool) (x y : List ℕ) → Within n x → Within n y → Within n (cond b x y)
within_cond n true x y h k = h
within_cond n false x y h k = k

length-digits : (k n : ℕ) → length (digits k n) ≡ k
unfolding digits
length-digits zero n = refl
length-digits (suc k) n = length-append (digits k (n / 10)) ((48 + n % 10) ∷ []) ∙ (let e = length-digits k (n / 10) in omega arith)

weekday_len : (n : ℕ) → Within 9 (weekday_name n)
unfolding weekday_name
weekday_len n =
    within_cond 9 (n == 0) _ _ (lit≤ tt) (within_cond 9 (n == 1) _ _ (lit≤ tt) (within_cond 9 (n == 2) _ _ (lit≤ tt)
    (within_cond 9 (n == 3) _ _ (lit≤ tt) (within_cond 9 (n == 4) _ _ (lit≤ tt) (within_cond 9 (n == 5) _ _ (lit≤ tt) (lit≤ tt))))))

month_len : (n : ℕ) → Within 9 (month_name n)
unfolding month_name
month_len n =
    within_cond 9 (n == 1) _ _ (lit≤ tt) (within_cond 9 (n == 2) _ _ (lit≤ tt) (within_cond 9 (n == 3) _ _ (lit≤ tt)
    (within_cond 9 (n == 4) _ _ (lit≤ tt) (within_cond 9 (n == 5) _ _ (lit≤ tt) (within_cond 9 (n == 6) _ _ (lit≤ tt)
    (within_cond 9 (n == 7) _ _ (lit≤ tt) (within_cond 9 (n == 8) _ _ (lit≤ tt) (within_cond 9 (n == 9) _ _ (lit≤ tt)
    (within_cond 9 (n == 10) _ _ (lit≤ tt) (within_cond 9 (n == 11) _ _ (lit≤ tt) (lit≤ tt)))))))))))

half_day_len : (hour : ℕ) → Within 2 (half_day hour)
unfolding half_day
half_day_len hour = within_cond 2 (nat_lt hour 12) _ _ (lit≤ tt) (lit≤ tt)

short_weekday_len : (at : Civil) → Within 3 (short_weekday at)
unfolding short_weekday
short_weekday_len at = omega (arith, length-take 3 (weekday_name at.weekday))

short_month_len : (at : Civil) → Within 3 (short_month at)
unfolding short_month
short_month_len at = omega (arith, length-take 3 (month_name at.month))

length-short_time : (at : Civil) → length (short_time at) ≡ 5
unfolding short_time
length-short_time at = simp (length-append, length-digits)

length-time : (at : Civil) → length (time at) ≡ 8
unfolding time
length-time at = simp (length-append, length-short_time, length-digits)

length-short_date : (at : Civil) → length (short_date at) ≡ 8
unfolding short_date
length-short_date at = simp (length-append, length-digits)

half_day_time_len : (at : Civil) → Within 11 (half_day_time at)
unfolding half_day_time
half_day_time_len at = let h = half_day_len at.hour in simp (length-append, length-digits) (omega arith)

date_and_time_len : (at : Civil) → at.day ≤ 31 → Within 24 (date_and_time at)
unfolding date_and_time
date_and_time_len at day =
    let w = short_weekday_len at in let m = short_month_len at in
    let d : length (decimal at.day) ≤ 2 = length-decimal-le 2 at.day (omega arith) (omega arith) (omega arith) in
    simp (length-append, length-digits, length-time) (omega arith)

length-stamp : (at : Civil) → length (stamp at) ≡ 23
unfolding stamp
length-stamp at = simp (length-append, length-digits, length-time)

length-offset_sign : (minutes : ℤ) → length (offset_sign minutes) ≡ 1
length-offset_sign (pos n) = refl
length-offset_sign (negsuc n) = refl

length-offset_text : (minutes : ℤ) → length (offset_text minutes) ≡ 6
unfolding offset_text
length-offset_text minutes = simp (length-append, length-digits, length-offset_sign)

decimal_len : (n : ℕ) → n < 10 ^ 10 → Within 10 (decimal n)
decimal_len n h = length-decimal-le 10 n (omega arith) h (omega arith)

epoch_len : (z : ℤ) → FitsSigned w64 z → Within 11 (epoch z)
unfolding epoch
epoch_len (pos n) fits =
    let small : n < 2 ^ 63 = omega (arith, ints) in
    let seconds : n / 1_000_000_000 < 10 ^ 10 = omega arith in
    omega (arith, decimal_len (n / 1_000_000_000) seconds)
epoch_len (negsuc n) fits =
    let small : n < 2 ^ 63 = omega (arith, ints) in
    let seconds : suc (n / 1_000_000_000) < 10 ^ 10 = omega arith in
    omega (arith, decimal_len (suc (n / 1_000_000_000)) seconds)

base_len : (file : List ℕ) → length (base file) ≤ length file
unfolding base
base_len file = simp length-drop (omega arith)

location_len : (file : List ℕ) (source : SourceFields) → length file ≤ 256 → source.line < 2 ^ 32 → Within 267 (location file source)
unfolding location
location_len file source h line =
    let d : length (decimal source.line) ≤ 10 = length-decimal-le 10 source.line (omega arith) (omega arith) (omega arith) in
    simp length-append (omega arith)

length-bracketed : (text : List ℕ) → length (bracketed text) ≡ length text + 3
unfolding bracketed
length-bracketed text = simp length-append (omega arith)

name_part_len : (name : List ℕ) → length name ≤ 64 → Within 67 (name_part name)
name_part_len [] h = omega arith
name_part_len (b ∷ bs) h = omega (arith, length-bracketed (b ∷ bs))

place_part_len : (source : Option SourceFields) → SourceFits source → Within 270 (place_part source)
place_part_len None h = omega arith
place_part_len (Some source) h =
    omega (
      arith,
      length-bracketed (location (base source.file) source),
      location_len (base source.file) source (omega (
        arith,
        base_len source.file,
        h.0,
      )) h.1,
    )

level_len : (level : Level) → Within 8 (row_of level).name
level_len levels.Trace = lit≤ tt
level_len levels.Debug = lit≤ tt
level_len levels.Info = lit≤ tt
level_len levels.Warning = lit≤ tt
level_len levels.Error = lit≤ tt
level_len levels.Critical = lit≤ tt
level_len levels.Off = lit≤ tt

short_level_len : (level : Level) → Within 1 (row_of level).short
short_level_len levels.Trace = lit≤ tt
short_level_len levels.Debug = lit≤ tt
short_level_len levels.Info = lit≤ tt
short_level_len levels.Warning = lit≤ tt
short_level_len levels.Error = lit≤ tt
short_level_len levels.Critical = lit≤ tt
short_level_len levels.Off = lit≤ tt

default_len : (limit : ℕ) (s : Shown) → IsShowable limit s → Within (limit + 374) (default_text s)
unfolding default_text
default_len limit s h =
    let name = name_part_len s.name h.name in
    let level = level_len s.message.level in
    let place = place_part_len s.message.source h.source in
    let text = h.text in
    simp (length-append, length-bracketed, length-stamp) (omega arith)

abbrev Bounded : ℕ → Shown → Flag → Type 0
Bounded limit s flag = length (flag_text s flag) ≤ greatest_len limit flag

time_len : (limit : ℕ) (s : Shown) → IsShowable limit s → (flag : Flag) → length (time_text s.at flag) ≤ greatest_len limit flag
unfolding time_text
time_len limit s h flags.ShortWeekday = short_weekday_len s.at
time_len limit s h flags.Weekday = weekday_len s.at.weekday
time_len limit s h flags.ShortMonth = short_month_len s.at
time_len limit s h flags.Month = month_len s.at.month
time_len limit s h flags.DateTime = date_and_time_len s.at h.day
time_len limit s h flags.ShortYear = omega (arith, length-digits 2 s.at.year)
time_len limit s h flags.Year = omega (arith, length-digits 4 s.at.year)
time_len limit s h flags.ShortDate = omega (arith, length-short_date s.at)
time_len limit s h flags.MonthNumber = omega (arith, length-digits 2 s.at.month)
time_len limit s h flags.Day = omega (arith, length-digits 2 s.at.day)
time_len limit s h flags.Hour = omega (arith, length-digits 2 s.at.hour)
time_len limit s h flags.HalfDayHour = omega (arith, length-digits 2 (half_day_hour s.at.hour))
time_len limit s h flags.Minute = omega (arith, length-digits 2 s.at.minute)
time_len limit s h flags.Second = omega (arith, length-digits 2 s.at.second)
time_len limit s h flags.Milliseconds = omega (arith, length-digits 3 (s.at.nanosecond / 1_000_000))
time_len limit s h flags.Microseconds = omega (arith, length-digits 6 (s.at.nanosecond / 1_000))
time_len limit s h flags.Nanoseconds = omega (arith, length-digits 9 s.at.nanosecond)
time_len limit s h flags.HalfDay = half_day_len s.at.hour
time_len limit s h flags.HalfDayTime = half_day_time_len s.at
time_len limit s h flags.ShortTime = omega (arith, length-short_time s.at)
time_len limit s h flags.Time = omega (arith, length-time s.at)
time_len limit s h flag = omega arith

source_len : (limit : ℕ) (flag : Flag) (text : SourceFields → List ℕ) (source : Option SourceFields) → SourceFits source
    → ((s : SourceFields) → SourceFits (Some s) → length (text s) ≤ greatest_len limit flag)
    → length (of_source text source) ≤ greatest_len limit flag
source_len limit flag text None h each = omega arith
source_len limit flag text (Some source) h each = each source h

-- no flag's text is longer than its greatest length
pub flag_len : (limit : ℕ) (s : Shown) → IsShowable limit s → (flag : Flag) → length (flag_text s flag) ≤ greatest_len limit flag
unfolding flag_text
flag_len limit s h flags.Text = h.text
flag_len limit s h flags.Thread = let t = h.thread in length-decimal-le 20 s.message.thread (omega arith) (omega arith) t
flag_len limit s h flags.Process = let p = h.process in length-decimal-le 10 s.process (omega arith) (omega arith) (omega arith)
flag_len limit s h flags.Name = h.name
flag_len limit s h flags.Level = level_len s.message.level
flag_len limit s h flags.ShortLevel = short_level_len s.message.level
flag_len limit s h flags.Offset = omega (arith, length-offset_text s.offset)
flag_len limit s h flags.Epoch = epoch_len s.message.time h.time
flag_len limit s h flags.ElapsedNanoseconds = let e = h.elapsed in length-decimal-le 20 s.elapsed (omega arith) (omega arith) e
flag_len limit s h flags.ElapsedMicroseconds =
    let e = h.elapsed in length-decimal-le 17 (s.elapsed / 1_000) (omega arith) (omega arith) (omega arith)
flag_len limit s h flags.ElapsedMilliseconds =
    let e = h.elapsed in length-decimal-le 14 (s.elapsed / 1_000_000) (omega arith) (omega arith) (omega arith)
flag_len limit s h flags.ElapsedSeconds =
    let e = h.elapsed in length-decimal-le 11 (s.elapsed / 1_000_000_000) (omega arith) (omega arith) (omega arith)
flag_len limit s h flags.Percent = lit≤ tt
flag_len limit s h flags.Default = default_len limit s h
flag_len limit s h flags.ColourStart = lit≤ tt
flag_len limit s h flags.ColourEnd = lit≤ tt
flag_len limit s h flags.Location = source_len limit flags.Location _ s.message.source h.source
    (λ x fits. location_len x.file x fits.0 fits.1)
flag_len limit s h flags.FileBase = source_len limit flags.FileBase _ s.message.source h.source (λ x fits. omega (
  arith,
  base_len x.file,
  fits.0,
))
flag_len limit s h flags.File = source_len limit flags.File _ s.message.source h.source (λ x fits. fits.0)
flag_len limit s h flags.Line = source_len limit flags.Line _ s.message.source h.source (λ x fits. let line = fits.1 in
    length-decimal-le 10 x.line (omega arith) (omega arith) (omega arith))
flag_len limit s h flags.Function = source_len limit flags.Function _ s.message.source h.source (λ x fits. fits.2)
flag_len limit s h flag = time_len limit s h flag
