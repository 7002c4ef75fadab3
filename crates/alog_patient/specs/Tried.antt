-- How often a call of the store below is tried.
use Rattle.std.specs.Prelude.{◌≡◌, ℕ, zero, suc, ◌+◌, ◌-◌, ◌<◌, ◌≤◌, Bool, true, false, Option, None, Some, OnOk, OnErr, Result}
use Rattle.std.specs.IoError.{error_kind}
use Rattle.std.specs.declared.io.Error.{Error}
use Rattle.std.specs.declared.io.ErrorKind.{ErrorKind}
use Rattle.std.specs.declared.io.ErrorKind.TheVariants.{InvalidFilename, InvalidInput}
use Rattle.alog_sink.specs.declared.TheConstants.{FAILURES_MAX}
use Rattle.alog_patient.specs.declared.patience.Patience.{Patience}
use Rattle.alog_patient.specs.declared.patience.Patience.TheVariants.{Endless, Times}

-- whether a call that failed is tried again, and what is left then
abbrev pub has_more : Patience → Bool
has_more Endless = true
has_more (Times zero) = false
has_more (Times (suc n)) = true

abbrev pub fewer : Patience → Patience
fewer Endless = Endless
fewer (Times n) = Times (n - 1)

-- What no change on the disk mends: the name is none that a file of the folder, or of any, may have.
abbrev pub is_of_name : ErrorKind → Bool
is_of_name InvalidInput = true
is_of_name InvalidFilename = true
is_of_name _ = false

abbrev pub is_hopeless : Option Error → Bool
is_hopeless None = false
is_hopeless (Some error) = is_of_name (error_kind error)

-- A call that is tried again at most n times failed at most n times where it is done, and once more where it is given up; one that is
-- tried without end is done. Only where the last failure is hopeless it is given up before, behind one failure or more. Whatever a call
-- is given up for, the last that was asked of the store below, in some state of it, failed. The states are those of the store below before
-- and after, whose failures are the numbers, and the reason is that of a call that is given up.
pub record Tried {S A E : Type 0} (failures : S → ℕ) (patience : Patience) (old new : S) (reason : Option Error) (answer : Result A E) : Type 0
  where
    pub done : (n : ℕ) → patience ≡ Times n → failures old + n < FAILURES_MAX → OnOk answer (failures new ≤ failures old + n)
    pub given_up : is_hopeless reason ≡ false
        → OnErr answer ((n : ℕ) × (patience ≡ Times n) × (failures old + n < FAILURES_MAX → failures new ≡ failures old + suc n))
    pub hopeless : (n : ℕ) → patience ≡ Times n → failures old + n < FAILURES_MAX
        → OnErr answer ((failures old < failures new) × (failures new ≤ failures old + suc n))
    pub failed : OnErr answer ((last : S) × (failures last < FAILURES_MAX → failures new ≡ failures last + 1))
