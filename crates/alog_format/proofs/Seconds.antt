-- What a clock shows at a time it shows throughout that second, but for the nanoseconds.
use Rattle.std.proofs.Common.{◌≡◌, ℕ, ◌<◌, ℤ, pos, negsuc, unsigned_abs, ◌+ℤ◌, ap, refl, arith}
use Rattle.std.specs.Int.{int_div_euclid, int_rem_euclid}
use Rattle.jiff_core.specs.declared.civil.datetime.DateTime.{DateTime}
use Rattle.jiff_core.proofs.DateTimeLemmas.{civil_nanos-civil_seconds}
use Rattle.jiff_core.proofs.SignedLemmas.{signed_arith}
use Rattle.jiff.specs.Words.{civil_nanos, civil_seconds, nanos_of_seconds}
use Rattle.alog_format.specs.declared.civil.Civil.{Civil}
use Rattle.alog_format.specs.declared.context.Zone.{Zone}
use Rattle.alog_format.specs.Civil.{fields, offset_seconds, with_nanosecond, IsShownAt}

-- the same second of a clock at other nanoseconds
abbrev with_subsec : (n : ℕ) → n < 1_000_000_000 → DateTime → DateTime
with_subsec n small at = record {
  date = at.date;
  time = record {
    hour = at.time.hour;
    minute = at.time.minute;
    second = at.time.second;
    subsec_nanosecond = n;
    hour_in = at.time.hour_in;
    minute_in = at.time.minute_in;
    second_in = at.time.second_in;
    subsec_in = small;
  };
}

seconds_with : (n : ℕ) (small : n < 1_000_000_000) (at : DateTime) → civil_seconds (with_subsec n small at) ≡ civil_seconds at
unfolding civil_seconds
seconds_with n small at = refl

subsec_is_small : (at : DateTime) → at.time.subsec_nanosecond < 1_000_000_000
subsec_is_small at = omega arith

-- the second that is shown at a time
pub seconds_are : (offset time number : ℤ) (at : DateTime) → civil_nanos at ≡ time +ℤ nanos_of_seconds offset
    → number ≡ int_div_euclid time (pos 1_000_000_000) → civil_seconds at ≡ number +ℤ offset
seconds_are offset time number at shown is =
    let s = civil_nanos-civil_seconds at in
    let b = subsec_is_small at in
    omega (arith, signed_arith)

-- any time in that second
pub shown_in : (zone : Zone) (time : ℤ) {number : ℤ} (at : DateTime) {civil : Civil} (n : ℕ)
    → civil_seconds at ≡ number +ℤ offset_seconds zone time
    → civil ≡ with_nanosecond civil.nanosecond (fields (offset_seconds zone time) at) → number ≡ int_div_euclid time (pos 1_000_000_000) → pos n ≡ int_rem_euclid time (pos 1_000_000_000)
    → IsShownAt zone time (with_nanosecond n civil)
shown_in zone time at n in_second is second rest =
    let small : n < 1_000_000_000 = omega (arith, signed_arith) in
    let other = with_subsec n small at in
    let a = civil_nanos-civil_seconds other in
    let b = seconds_with n small at in
    (other, omega (arith, signed_arith), ap (with_nanosecond n) is)

-- what is left of a time is not below 0
pub rest_is : (time second : ℤ) → pos (unsigned_abs (int_rem_euclid time second)) ≡ int_rem_euclid time second
rest_is (pos n) second = refl
rest_is (negsuc n) second = refl

-- the day of whole seconds on a clock, and the second of it
pub day_of_seconds : (offset time seconds : ℤ) → seconds ≡ int_div_euclid time (pos 1_000_000_000) +ℤ offset
    → int_div_euclid seconds (pos 86_400) ≡ int_div_euclid (time +ℤ nanos_of_seconds offset) (pos 86_400_000_000_000)
day_of_seconds offset time seconds is = omega (arith, signed_arith)

pub second_of_seconds : (offset time seconds : ℤ) → seconds ≡ int_div_euclid time (pos 1_000_000_000) +ℤ offset
    → int_rem_euclid seconds (pos 86_400)
    ≡ int_div_euclid (int_rem_euclid (time +ℤ nanos_of_seconds offset) (pos 86_400_000_000_000)) (pos 1_000_000_000)
second_of_seconds offset time seconds is = omega (arith, signed_arith)
