-- Tickets of one place: they are whole laps apart.
use Rattle.std.proofs.Common.{◌≡◌, ◌≢◌, ℕ, zero, suc, ◌+◌, ◌*◌, ◌/◌, ◌%◌, ◌<◌, ◌≤◌, ◌⊎◌, sym, ap, ◌∙◌, inl, inr, arith}
use Rattle.std.proofs.Common.{mul-le-mul_right, suc-mul, div-add-mod'}
use Rattle.std.proofs.lemmas.Bool.Decides.{eqb_tells, leb_tells}
use native.Mathlib.Nat.{add-mod_right}

pub same_or_not : (a b : ℕ) → (a ≡ b) ⊎ (a ≢ b)
same_or_not a b = elim (eqb_tells a b) [ inl h ↦ inl h.1 | inr h ↦ inr h.1 ]

further : (x y n : ℕ) → x < y → x * n + n ≤ y * n
further x y n h = let more : suc x * n ≤ y * n = mul-le-mul_right n h in omega (arith, suc-mul x n)

-- two tickets less than a lap apart, of one place, are one ticket
pub one_lap : (a b n : ℕ) → a ≤ b → b < a + n → a % n ≡ b % n → a ≡ b
one_lap a b n le lt e =
    let x : ℕ = a / n * n
    in let y : ℕ = b / n * n
    in let r : ℕ = b % n
    in let at_a : x + r ≡ a = ap (λ (k : ℕ). x + k) (sym e) ∙ div-add-mod' a n
    in let at_b : y + r ≡ b = div-add-mod' b n
    in elim (leb_tells (b / n) (a / n)) [
      | inl h ↦ let m : y ≤ x = mul-le-mul_right n h.1 in omega arith
      | inr h ↦ let m : x + n ≤ y = further (a / n) (b / n) n h.1 in absurd (omega arith)
    ]

-- two tickets less than a lap apart have two places, and so have those less than two laps apart but for one lap
pub near_apart : (n t u : ℕ) → t ≢ u → t < u + n → u < t + n → u % n ≢ t % n
near_apart n t u apart a b same =
    elim (leb_tells t u) [
      | inl le ↦ apart (one_lap t u n le.1 b (sym same))
      | inr lt ↦ apart (sym (one_lap u t n (omega (arith, lt.1)) a same))
    ]

pub far_apart : (n t u : ℕ) → u ≢ t + n → t < u → u < t + n + n → u % n ≢ t % n
far_apart n t u apart a b same =
    elim (leb_tells (t + n) u) [
      | inl le ↦ apart (sym (one_lap (t + n) u n le.1 b (add-mod_right t n ∙ sym same)))
      | inr lt ↦ let e : t ≡ u = one_lap t u n (omega arith) (omega (arith, lt.1)) (sym same) in omega arith
    ]

-- some laps further on there is a ticket of the same place that may be the next one there
pub lap : (d p next n : ℕ) → 1 ≤ n → p < next → next ≤ p + d → (t : ℕ) × (next ≤ t) × (t < next + n) × (t % n ≡ p % n)
    × (p + n ≤ t)
lap zero p next n some a b = absurd (omega arith)
lap (suc d) p next n some a b =
    elim (leb_tells next (p + n)) [
      | inl le ↦ (p + n, le.1, omega arith, add-mod_right p n, omega arith)
      | inr lt ↦
          let more : (t : ℕ) × (next ≤ t) × (t < next + n) × (t % n ≡ (p + n) % n) × (p + n + n ≤ t) =
          lap d (p + n) next n some lt.1 (omega arith)
          in (more.0, more.1, more.2, more.3 ∙ add-mod_right p n, omega (arith, more.4))
    ]
