-- How the works of a test end.
use Rattle.std.specs.Prelude.{◌≡◌, ◌<◌, ◌≤◌, ℕ, Result, Ok, Err}

-- those of the first two threads without an error, and each other with its thread's number
abbrev pub EndsLate : ℕ → Result (Unit {0}) ℕ → Type 0
EndsLate thread (Ok done) = thread < 2
EndsLate thread (Err e) = (2 ≤ thread) × (e ≡ thread)
