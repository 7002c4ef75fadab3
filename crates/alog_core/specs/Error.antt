-- The numbers of the refusals.
use Rattle.std.specs.Prelude.{ℕ}
use Rattle.alog_core.specs.declared.error.BeginError.{BeginError}
use Rattle.alog_core.specs.declared.error.BeginError.TheVariants as begin
use Rattle.alog_core.specs.declared.error.StepError.{StepError}
use Rattle.alog_core.specs.declared.error.StepError.TheVariants as step

abbrev pub begin_number : BeginError → ℕ
begin_number begin.NoActor = 6
begin_number begin.InCall = 7

abbrev pub step_number : StepError → ℕ
step_number step.NoActor = 6
step_number step.NotInCall = 8
