-- Which limits of a rotation are refused, and what a refused constructor leaves of the count of failures.
use Rattle.std.specs.Prelude.{◌≡◌, ℕ, ◌+◌, ◌<◌, ◌⊎◌, None, []}
use Rattle.alog_sink.specs.DailyFiles.{DayLimits}
use Rattle.alog_sink.specs.Rotation.{Limits}
use Rattle.alog_sink.specs.declared.TheConstants.{FAILURES_MAX}
use Rattle.alog_sink.specs.declared.daily_files.TheConstants.{HOUR_MAX, MINUTE_MAX}
use Rattle.alog_sink.specs.declared.open.OpenError.{OpenError}
use Rattle.alog_sink.specs.declared.open.OpenError.TheVariants.{BadLimit, BadName, OutOfMemory, Store}
use Rattle.alog_sink.specs.declared.rotation.OpenError.{OpenError as RotationError}
use Rattle.alog_sink.specs.declared.rotation.OpenError.TheVariants as rotation
use Rattle.alog_sink.specs.declared.rotation.TheConstants.{SIZE_MAX, FILES_MAX}
use Rattle.alog_sink.specs.declared.target.Target.{Target}
use Rattle.alog_sink.specs.declared.target.Target.TheVariants.{Memory, Rotating, Daily}

-- no size at all, or a limit past the greatest
abbrev pub AreBadLimits : ℕ → ℕ → Type 0
AreBadLimits max_size max_files = (max_size ≡ 0) ⊎ (SIZE_MAX < max_size) ⊎ (FILES_MAX < max_files)

-- the store failed where it is said, and else it did not
abbrev pub FailsAs : ℕ → ℕ → OpenError → Type 0
FailsAs old new Store = old < FAILURES_MAX → new ≡ old + 1
FailsAs old new BadLimit = new ≡ old
FailsAs old new BadName = new ≡ old
FailsAs old new OutOfMemory = new ≡ old

-- files that are rotated within these limits
abbrev pub IsRotating : Limits → Target → Type 0
IsRotating limits (Memory j) = ⊥
IsRotating limits (Rotating r) = r.limits ≡ limits
IsRotating limits (Daily d) = ⊥

-- no hour or minute of a day, or too many files
abbrev pub AreBadDays : ℕ → ℕ → ℕ → Type 0
AreBadDays hour minute max_files = (HOUR_MAX < hour) ⊎ (MINUTE_MAX < minute) ⊎ (FILES_MAX < max_files)

-- files by days within these limits, of which none was opened
abbrev pub IsNewDaily : DayLimits → Target → Type 0
IsNewDaily limits (Memory j) = ⊥
IsNewDaily limits (Rotating r) = ⊥
IsNewDaily limits (Daily d) = d ≡ record { limits = limits; latest = None; names = [] }

abbrev pub as_open_error : RotationError → OpenError
as_open_error rotation.OutOfMemory = OutOfMemory
as_open_error rotation.Store = Store
