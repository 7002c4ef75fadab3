-- How often a call of the store below failed so far, by what is left of the patience.
use Rattle.std.proofs.Common.{◌≡◌, ℕ, zero, suc, ◌+◌, ◌<◌, ◌≤◌, Bool, cond, true, false, true≢false, refl, sym, subst, arith}
use Rattle.alog_sink.specs.declared.TheConstants.{FAILURES_MAX}
use Rattle.alog_patient.specs.Tried.{fewer, has_more}
use Rattle.alog_patient.specs.declared.patience.Patience.{Patience}
use Rattle.alog_patient.specs.declared.patience.Patience.TheVariants.{Endless, Times}

-- each failure took one of the times
abbrev pub FailedSo : Patience → Patience → ℕ → ℕ → Type 0
FailedSo Endless Endless old new = Unit {0}
FailedSo (Times n) (Times left) old new = old + n < FAILURES_MAX → (new + left ≡ old + n) × (old ≤ new)
FailedSo _ _ _ _ = ⊥

pub begins : (p : Patience) (old : ℕ) → FailedSo p p old old
begins Endless old = tt
begins (Times n) old = λ _. (refl, omega arith)

module _ (p left : Patience) (old mid new : ℕ) (so : FailedSo p left old mid) where
  -- one failure more
  pub failed_more : (hopeless : Bool) → (mid < FAILURES_MAX → new ≡ mid + 1) → cond hopeless false (has_more left) ≡ true → FailedSo p (fewer left) old new
  failed_more true one more = absurd (true≢false (sym more))
  failed_more false one more = at p left so more
    where
      at : (p left : Patience) → FailedSo p left old mid → has_more left ≡ true → FailedSo p (fewer left) old new
      at Endless Endless so more = tt
      at (Times n) (Times zero) so more = absurd (true≢false (sym more))
      at (Times n) (Times (suc k)) so more = λ low.
          let both : (mid + suc k ≡ old + n) × (old ≤ mid) = so low in
          let next : new ≡ mid + 1 = one (omega (arith, low, both.0)) in
          (omega (arith, both.0, next), omega (arith, both.1, next))
      at Endless (Times k) so more = absurd so
      at (Times n) Endless so more = absurd so

  -- the last one
  pub gave_up : (mid < FAILURES_MAX → new ≡ mid + 1) → has_more left ≡ false
      → (n : ℕ) × (p ≡ Times n) × (old + n < FAILURES_MAX → new ≡ old + suc n)
  gave_up one more = at p left so more
    where
      at : (p left : Patience) → FailedSo p left old mid → has_more left ≡ false
          → (n : ℕ) × (p ≡ Times n) × (old + n < FAILURES_MAX → new ≡ old + suc n)
      at Endless Endless so more = absurd (true≢false more)
      at (Times n) (Times zero) so more = (
        n,
        refl,
        λ low.
            let e : mid + zero ≡ old + n = (so low).0 in
            let next : new ≡ mid + 1 = one (omega (arith, low, e)) in
            omega (arith, e, next),
      )
      at (Times n) (Times (suc k)) so more = absurd (true≢false more)
      at Endless (Times k) so more = absurd so
      at (Times n) Endless so more = absurd so

  -- one that is the last, whatever is left
  pub gave_up_within : (mid < FAILURES_MAX → new ≡ mid + 1) → (n : ℕ) → p ≡ Times n → old + n < FAILURES_MAX → (old < new) × (new ≤ old + suc n)
  gave_up_within one n e low = at left (subst (λ q. FailedSo q left old mid) e so)
    where
      at : (left : Patience) → FailedSo (Times n) left old mid → (old < new) × (new ≤ old + suc n)
      at Endless so = absurd so
      at (Times k) so =
          let both : (mid + k ≡ old + n) × (old ≤ mid) = so low in
          let next : new ≡ mid + 1 = one (omega (arith, low, both.0)) in
          (omega (arith, both.1, next), omega (arith, both.0, next))

  -- none more
  pub was_done : new ≡ mid → (n : ℕ) → p ≡ Times n → old + n < FAILURES_MAX → new ≤ old + n
  was_done same n e low = at left (subst (λ q. FailedSo q left old mid) e so)
    where
      at : (left : Patience) → FailedSo (Times n) left old mid → new ≤ old + n
      at Endless so = absurd so
      at (Times k) so =
          let sum : mid + k ≡ old + n = (so low).0 in
          omega (arith, sum, same)
