-- A size is a power of two, and within its bounds.
use Rattle.std.proofs.Common.{◌≡◌, ℕ, zero, suc, ◌+◌, ◌*◌, ◌/◌, ◌%◌, ◌^◌, ◌≤◌, ◌&&◌, leb, Bool, true, count_ones, ◌≢◌}
use Rattle.std.proofs.Common.{◌-◌, bit_and, ap, sym, ◌∙◌, arith, inl, inr}
use Rattle.std.specs.Int.{is_power_of_two, IsPowerOfTwo}
use Rattle.std.proofs.lemmas.Bool.Decides.{eqb_tells, nat_tests}
use Rattle.std.proofs.lemmas.Grind.{pow_more}
use Rattle.std.proofs.lemmas.Nat.{and_mask, ones_le_self, zero_from_ones}
use lib.Count.{ones_step}
use Rattle.alog_core.specs.World.{is_size}
use Rattle.alog_core.specs.declared.TheConstants.{PLACES_MIN, PLACES_MAX}
use Rattle.alog_core.proofs.Steps.{and_first, and_second}

one_digit : (d n : ℕ) → n ≤ d → count_ones n ≡ 1 → IsPowerOfTwo n
one_digit zero n h e = absurd (omega (arith, ones_le_self n, e, h))
one_digit (suc d) n h e =
    let s = ones_step n in
    elim (eqb_tells (n % 2) 0) [
      | inl even ↦
          let half : IsPowerOfTwo (n / 2) = one_digit d (n / 2) (omega arith) (omega (arith, s, e, even.1)) in
          let twice : 2 ^ (half.0 + 1) ≡ 2 ^ half.0 * 2 = pow_more 2 half.0 in
          (half.0 + 1, omega (arith, half.1, twice, even.1))
      | inr odd ↦
          let low : n % 2 ≢ 0 = odd.1 in
          let none : n / 2 ≡ 0 = zero_from_ones (n / 2) (omega (arith, s, e)) in
          (0, omega (arith, none))
    ]

pub size_facts : (n : ℕ) → is_size n ≡ true → IsPowerOfTwo n × (PLACES_MIN ≤ n) × (n ≤ PLACES_MAX)
size_facts n h =
    let within : Bool = leb PLACES_MIN n && leb n PLACES_MAX in
    let power : is_power_of_two n ≡ true = and_first (is_power_of_two n) within h in
    let bounds : within ≡ true = and_second (is_power_of_two n) within h in
    let least : leb PLACES_MIN n ≡ true = and_first (leb PLACES_MIN n) (leb n PLACES_MAX) bounds in
    let most : leb n PLACES_MAX ≡ true = and_second (leb PLACES_MIN n) (leb n PLACES_MAX) bounds in
    (one_digit n n (omega arith) (grind (arith, nat_tests)), grind (arith, nat_tests), grind (arith, nat_tests))

-- what the mask of a size keeps of a number is the remainder
pub mask_is : (mask t : ℕ) → is_size (mask + 1) ≡ true → bit_and t mask ≡ t % (mask + 1)
mask_is mask t h =
    let power : IsPowerOfTwo (mask + 1) = (size_facts (mask + 1) h).0
    in let up : mask + 1 ≡ 2 ^ power.0 = power.1
    in let is : mask ≡ 2 ^ power.0 - 1 = omega (arith, up)
    in ap (λ (m : ℕ). bit_and t m) is ∙ and_mask t power.0 ∙ ap (λ (k : ℕ). t % k) (sym up)
