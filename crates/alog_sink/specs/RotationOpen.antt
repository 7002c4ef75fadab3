-- What the opening of a rotation leaves of the count of failures.
use Rattle.std.specs.Prelude.{◌≡◌, ℕ, ◌+◌, ◌<◌, Result, MatchResult}
use Rattle.alog_sink.specs.declared.TheConstants.{FAILURES_MAX}
use Rattle.alog_sink.specs.declared.rotation.OpenError.{OpenError}
use Rattle.alog_sink.specs.declared.rotation.OpenError.TheVariants.{OutOfMemory, Store}

-- want of memory is no failure of the store
abbrev pub FailsWith : ℕ → ℕ → OpenError → Type 0
FailsWith old new OutOfMemory = new ≡ old
FailsWith old new Store = old < FAILURES_MAX → new ≡ old + 1

abbrev pub CountsOpening : {A : Type 0} → ℕ → ℕ → Result A OpenError → Type 0
CountsOpening old new answer = MatchResult answer (λ _. new ≡ old) (FailsWith old new)
