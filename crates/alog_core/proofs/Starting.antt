-- The words and places of an empty queue.
use Rattle.std.proofs.Common.{◌≡◌, ◌≢◌, ℕ, zero, suc, ◌+◌, ◌%◌, ◌<◌, ◌≤◌, Option, None, List, length, get_or, set, replicate}
use Rattle.std.proofs.Common.{refl, ap, ◌∙◌, inl, inr, subst, arith, get_or-set_other, get_or-set_same, mod-lt}
use Rattle.alog_core.specs.Queue.{start}
use Rattle.alog_core.specs.Words.{AreSequences}
use Rattle.alog_core.specs.Table.{AreHeld}
use Rattle.alog_core.proofs.SharedLaps.{same_or_not, near_apart}

-- from f up to t each ticket stands in its place
abbrev pub Sequenced : (n f t : ℕ) → List ℕ → Type 0
Sequenced n f t row = (u : ℕ) → f ≤ u → u < t → get_or row (u % n) 0 ≡ u

-- a sequence is written: the others stay
pub sequences_more : {n f t : ℕ} (row : List ℕ) → 2 ≤ n → f ≤ t → t < f + n → length row ≡ n → Sequenced n f t row
    → Sequenced n f (t + 1) (set row (t % n) t)
sequences_more {n} {f} {t} row two low high wide before = λ u from to.
    let some : 0 < n = omega arith
    in let place : t % n < n = mod-lt t some
    in elim (same_or_not t u) [
      | inl same ↦ let P : ℕ → Type 0 = λ z. get_or (set row (t % n) t) (z % n) 0 ≡ z in
          subst P same (get_or-set_same row (t % n) t 0 (omega arith))
      | inr other ↦
          let apart : u % n ≢ t % n = near_apart n t u other (omega arith) (omega arith)
          in get_or-set_other row (t % n) (u % n) t 0 apart ∙ before u from (omega arith)
    ]

pub first_sequences : {T : Type 0} (n f : ℕ) (row : List ℕ) → length row ≡ n
    → Sequenced n f (f + n) row → AreSequences {T = T} n (start f) row
first_sequences n f row wide each = record {
  count = wide;
  places = record { cells = λ t c has. absurd (cc); free = λ t from to _. each t from to };
}

none_of : {A : Type 0} (n i : ℕ) → get_or (replicate n (let none : Option A = None in none)) i None ≡ None
none_of zero i = refl
none_of (suc n) zero = refl
none_of (suc n) (suc i) = none_of n i

all_of : {A : Type 0} (x : A) (n : ℕ) → length (replicate n x) ≡ n
all_of x zero = refl
all_of x (suc n) = ap suc (all_of x n)

pub first_slots : {T : Type 0} (n f : ℕ) → AreHeld {T = T} n (start f) (replicate n None)
first_slots n f = record {
  count = all_of None n;
  places = record { cells = λ t c has. absurd (cc); free = λ t from to _. none_of n (t % n) };
}
