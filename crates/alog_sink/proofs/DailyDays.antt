-- The day, the period and the date of what a clock shows at a time.
use Rattle.std.proofs.Common.{◌≡◌, ℕ, ◌+◌, ◌*◌, ◌<◌, nat_lt, cond, true, false, refl, sym, ap, ◌∙◌, arith, FitsSigned, Bool, to_z, of_z, ◌^◌}
use Rattle.std.proofs.Common.{ℤ, pos, negsuc, neg_ℤ, ◌+ℤ◌, ◌-ℤ◌, ◌≤ℤ◌, unsigned_abs}
use Rattle.std.specs.Int.{int_div_euclid, int_rem_euclid, w64}
use Rattle.std.specs.Int.Signed.{lt_z}
use Rattle.std.proofs.lemmas.Int.{by_lt_z}
use Rattle.jiff_core.specs.declared.civil.datetime.DateTime.{DateTime}
use Rattle.jiff_core.specs.Calendar.{day_count, IsYear}
use Rattle.jiff_core.specs.Time.{time_nanos, time_seconds}
use Rattle.jiff_core.proofs.CalendarLemmas.{day_count-lt_year, days_in_month_bounds, days_from_civil-day_count}
use Rattle.jiff_core.proofs.DateLemmas.{epoch_day_injective, epoch_day_same, civil}
use Rattle.jiff_core.proofs.DateTimeLemmas.{civil_nanos_injective, civil_nanos-parts, epoch_day-civil_nanos, time_nanos_bound}
use Rattle.jiff_core.proofs.MarchLemmas.{day_count-early}
use Rattle.jiff_core.proofs.SignedLemmas.{signed_arith, back_small}
use Rattle.jiff.specs.Words.{civil_nanos, epoch_day}
use Rattle.alog_format.proofs.SharedOffsets.{offset_near}
use Rattle.alog_format.specs.Civil.{IsZone, day_at, second_at, local_nanos}
use Rattle.alog_format.specs.declared.context.Zone.{Zone}
use Rattle.alog_sink.specs.DailyFiles.{date_of, period_of}
use Rattle.alog_sink.specs.Names.{IsDate}
use Rattle.alog_sink.specs.declared.names.Date.{Date}

-- dates of one day are the same
pub one_date : (a b : DateTime) → epoch_day a.date ≡ epoch_day b.date → date_of a ≡ date_of b
one_date a b e = let d = epoch_day_injective a.date b.date e in rw (d.0, d.1, d.2) refl

pub shown_date : (a b : DateTime) → civil_nanos a ≡ civil_nanos b → date_of a ≡ date_of b
shown_date a b e = one_date a b (civil_nanos_injective a b e).0

-- and dates that are written alike are of one day, from year 0 on
abs_of : (y : ℤ) → pos 0 ≤ℤ y → pos (unsigned_abs y) ≡ y
abs_of (pos n) h = refl
abs_of (negsuc n) h = absurd (omega (arith, signed_arith))

abs_small : (y : ℤ) → IsYear y → unsigned_abs y < 10000
abs_small (pos n) h = omega (arith, signed_arith)
abs_small (negsuc n) h = omega (arith, signed_arith)

pub one_day : (a b : DateTime) → pos 0 ≤ℤ a.date.year → pos 0 ≤ℤ b.date.year → date_of a ≡ date_of b → epoch_day a.date ≡ epoch_day b.date
one_day a b first second e =
    epoch_day_same a.date b.date
    (sym (abs_of a.date.year first) ∙ (ap (λ (d : Date). pos d.year) e ∙ abs_of b.date.year second))
    (ap (λ (d : Date). d.month) e) (ap (λ (d : Date). d.day) e)

pub is_date : (at : DateTime) → IsDate (date_of at)
is_date at = record {
  year = abs_small at.date.year at.date.year_in;
  month = let m = at.date.month_in in omega arith;
  day = let d = at.date.day_in in let m = days_in_month_bounds at.date.year at.date.month in omega arith;
}

-- the day and the second of what is shown
pub day_is : (zone : Zone) (time : ℤ) (at : DateTime) → civil_nanos at ≡ local_nanos zone time → day_at zone time ≡ epoch_day at.date
day_is zone time at shown =
    ap (λ (n : ℤ). int_div_euclid n (pos 86_400_000_000_000)) (sym shown) ∙ sym (epoch_day-civil_nanos at)

rest_is : (at : DateTime) → int_rem_euclid (civil_nanos at) (pos 86_400_000_000_000) ≡ pos (time_nanos at.time)
rest_is at = omega (arith, signed_arith, civil_nanos-parts at, time_nanos_bound at.time)

seconds_are : (seconds part : ℕ) → part < 1_000_000_000 → int_div_euclid (pos (seconds * 1_000_000_000 + part)) (pos 1_000_000_000) ≡ pos seconds
seconds_are seconds part small = omega (arith, signed_arith)

part_is_small : (at : DateTime) → at.time.subsec_nanosecond < 1_000_000_000
part_is_small at = omega arith

pub second_is : (zone : Zone) (time : ℤ) (at : DateTime) → civil_nanos at ≡ local_nanos zone time
    → second_at zone time ≡ pos (time_seconds at.time)
second_is zone time at shown =
    ap (λ (n : ℤ). int_div_euclid (int_rem_euclid n (pos 86_400_000_000_000)) (pos 1_000_000_000)) (sym shown)
    ∙ (ap (λ (n : ℤ). int_div_euclid n (pos 1_000_000_000)) (rest_is at)
    ∙ seconds_are (time_seconds at.time) at.time.subsec_nanosecond (part_is_small at))

-- a period is its day or the day before
pub period_near : (change : ℕ) (at : DateTime) → (period_of change at ≤ℤ epoch_day at.date) × (epoch_day at.date ≤ℤ (period_of change at +ℤ pos 1))
period_near change at = by (nat_lt (time_seconds at.time) change)
  where
    by : (b : Bool) → (cond b (epoch_day at.date -ℤ pos 1) (epoch_day at.date) ≤ℤ epoch_day at.date)
        × (epoch_day at.date ≤ℤ (cond b (epoch_day at.date -ℤ pos 1) (epoch_day at.date) +ℤ pos 1))
    by true = omega (arith, signed_arith)
    by false = omega (arith, signed_arith)

-- a day that is shown at a time is not far from 1970, and its year not before year 0
pub day_near : (zone : Zone) (time : ℤ) (at : DateTime) → IsZone zone → FitsSigned w64 time → civil_nanos at ≡ local_nanos zone time
    → (neg_ℤ (pos 200_000) ≤ℤ epoch_day at.date) × (epoch_day at.date ≤ℤ pos 200_000)
day_near zone time at near fits shown =
    let offset = offset_near zone time near in
    omega (arith, signed_arith, shown, offset, civil_nanos-parts at, time_nanos_bound at.time)

pub day_bound : (zone : Zone) (time : ℤ) → IsZone zone → FitsSigned w64 time
    → (neg_ℤ (pos 200_000) ≤ℤ day_at zone time) × (day_at zone time ≤ℤ pos 200_000)
day_bound zone time near fits = let offset = offset_near zone time near in omega (arith, signed_arith, offset)

abs_near : (z : ℤ) → neg_ℤ (pos 300_000) ≤ℤ z → z ≤ℤ pos 300_000 → unsigned_abs z < 2 ^ 63
abs_near (pos n) low high = omega (arith, signed_arith)
abs_near (negsuc n) low high = omega (arith, signed_arith)

year_0 : day_count (pos 0) 1 1 ≡ 3_652_425
year_0 = day_count-early (pos 0) 9999 1 1 refl (omega arith) (omega arith) (omega arith)

pub year_from_0 : (zone : Zone) (time : ℤ) (at : DateTime) → IsZone zone → FitsSigned w64 time → civil_nanos at ≡ local_nanos zone time
    → pos 0 ≤ℤ at.date.year
year_from_0 zone time at near fits shown = by_lt_z at.date.year (pos 0)
    (λ before. absurd (
    let less = day_count-lt_year at.date.year at.date.month at.date.day (pos 0) 1 1 (civil at.date) (omega arith) before in
    let day = day_near zone time at near fits shown in
    omega (arith, signed_arith, year_0, days_from_civil-day_count at.date.year at.date.month at.date.day)))
    (λ since. since)

-- The same as a program has it: signed numbers of 64 bits.
pub small_back : (n : ℕ) → n < 2 ^ 32 → to_z w64 (of_z w64 (pos n)) ≡ pos n
small_back n small = back_small w64 (pos n) (omega (arith, signed_arith))

seconds_small : (at : DateTime) → time_seconds at.time < 2 ^ 32
seconds_small at = omega arith

module _ (zone : Zone) (time : ℤ) (at : DateTime) (near : IsZone zone) (fits : FitsSigned w64 time)
    (shown : civil_nanos at ≡ local_nanos zone time) (change : ℕ) (small : change < 2 ^ 32) (day second from : ℤ)
    (is_day : day ≡ day_at zone time) (is_second : second ≡ second_at zone time) (is_from : from ≡ pos change) where
  its_day : day ≡ epoch_day at.date
  its_day = is_day ∙ day_is zone time at shown

  near_day : (neg_ℤ (pos 200_000) ≤ℤ epoch_day at.date) × (epoch_day at.date ≤ℤ pos 200_000)
  near_day = day_near zone time at near fits shown

  day_back : to_z w64 (of_z w64 day) ≡ epoch_day at.date
  day_back = ap (λ z. to_z w64 (of_z w64 z)) its_day ∙ back_small w64 (epoch_day at.date) (abs_near (epoch_day at.date)
      (let n = near_day in omega (arith, signed_arith)) (let n = near_day in omega (arith, signed_arith)))

  second_back : to_z w64 (of_z w64 second) ≡ pos (time_seconds at.time)
  second_back =
      ap (λ z. to_z w64 (of_z w64 z)) (is_second ∙ second_is zone time at shown) ∙ small_back (time_seconds at.time) (seconds_small at)

  from_back : to_z w64 (of_z w64 from) ≡ pos change
  from_back = ap (λ z. to_z w64 (of_z w64 z)) is_from ∙ small_back change small

  compared : (b : Bool) → lt_z (to_z w64 (of_z w64 second)) (to_z w64 (of_z w64 from)) ≡ b → nat_lt (time_seconds at.time) change ≡ b
  compared b e = sym (ap (λ z. lt_z z (to_z w64 (of_z w64 from))) second_back ∙ ap (lt_z (pos (time_seconds at.time))) from_back) ∙ e

  pub before_change : lt_z (to_z w64 (of_z w64 second)) (to_z w64 (of_z w64 from)) ≡ true
      → to_z w64 (of_z w64 (to_z w64 (of_z w64 day) -ℤ pos 1)) ≡ period_of change at
  before_change e =
      ap (λ z. to_z w64 (of_z w64 (z -ℤ pos 1))) day_back
      ∙ (back_small w64 (epoch_day at.date -ℤ pos 1) (abs_near (epoch_day at.date -ℤ pos 1)
      (let n = near_day in omega (arith, signed_arith)) (let n = near_day in omega (arith, signed_arith)))
      ∙ sym (ap (λ b. cond b (epoch_day at.date -ℤ pos 1) (epoch_day at.date)) (compared true e)))

  pub since_change : lt_z (to_z w64 (of_z w64 second)) (to_z w64 (of_z w64 from)) ≡ false
      → to_z w64 (of_z w64 day) ≡ period_of change at
  since_change e = day_back ∙ sym (ap (λ b. cond b (epoch_day at.date -ℤ pos 1) (epoch_day at.date)) (compared false e))
