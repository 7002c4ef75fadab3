-- What the calls of a store leave, by their answer.
use Rattle.std.specs.Prelude.{◌≡◌, ℕ, ◌+◌, ◌<◌, ◌⊎◌, List, ◌++◌, take, OnOk, OnErr, Result}
use Rattle.alog_sink.specs.Files.{Files, AreSame, appended}
use Rattle.alog_sink.specs.declared.TheConstants.{FAILURES_MAX}

-- A failed append leaves the files as they were, or some first bytes of what was to be appended behind the file.
abbrev pub LeavesFront : List ℕ → List ℕ → Files → Files → Type 0
LeavesFront name bytes old new = AreSame old new
    ⊎ ((front : List ℕ) × (rest : List ℕ) × (bytes ≡ front ++ rest) × AreSame (appended name front old) new)

-- A failed append appended just so many of the first bytes. Where that are none, the files may also be as they were.
abbrev pub TakesFront : ℕ → List ℕ → List ℕ → Files → Files → Type 0
TakesFront taken name bytes old new = ((taken ≡ 0) × AreSame old new) ⊎ AreSame (appended name (take taken bytes) old) new

-- A failed call is counted: one failure more, as long as there are fewer than 2^64 - 1. Another call leaves the count.
pub record Counts {A E : Type 0} (old new : ℕ) (answer : Result A E) : Type 0 where
  pub done : OnOk answer (new ≡ old)
  pub failed : OnErr answer (old < FAILURES_MAX → new ≡ old + 1)
